use Rattle.std.proofs.Common.{◌≡◌, ◌⊎◌, inr, length, map, arith, rules}
use Rattle.std.proofs.lemmas.List.{length-map}
use Rattle.command_runner.specs.Ends.{StoresBeginning}
use Rattle.brake_commands.specs.SetupStops.{list_data, fitted_data, IsFitted}
use Rattle.brake_commands.specs.Attempts.{attempt_data}
use Rattle.brake_commands.specs.Begun.{IsListBeginning}
use Rattle.brake_commands.proofs.Trying.{as_many}
use Rattle.brake_commands.proofs.SetupsAnswers.{first_stands}
use Rattle.brake_commands.proofs.Begun.{few_kept, each_kept, begun_all, list_begun, tried_is}
use Rattle.brake_commands.proofs.setups.fitted_answer.Goals as goal

pub blank_sheet_of-requires-clause-fits : goal.blank_sheet_of-requires-clause-fits
blank_sheet_of-requires-clause-fits g c =
    let list = list_data c.args.list.now in
    first_stands list.files list.setups (map fitted_data c.args.fits.now) c.requires.setups.some_setup c.requires.fits

pub try_all-requires : goal.try_all-requires
try_all-requires g c =
    let list = list_data c.args.list.now in
    let fits = map fitted_data c.args.fits.now in
    omega (arith, c.requires.setups.few_setups, as_many (IsFitted list.files) list.setups fits c.requires.fits, length-map c.args.fits.now fitted_data)

pub returns-in_err-attempts-clause-begins : goal.returns-in_err-attempts-clause-begins
returns-in_err-attempts-clause-begins g c =
    let list = list_data c.args.list.now in
    let begun : (g.H.Shelf.state c.try_all.new.shelf ≡ g.H.Shelf.state c.args.shelf.now) ⊎ StoresBeginning (IsListBeginning c.args.name.now (list_data c.args.list.now)) (g.H.Shelf.state c.args.shelf.now) (g.H.Shelf.state c.try_all.new.shelf) =
    inr (list_begun c.args.name.now list (map fitted_data c.args.fits.now) (g.H.Shelf.state c.args.shelf.now) (g.H.Shelf.state c.try_all.new.shelf) c.requires.setups.few_setups c.requires.fits c.in_err-attempts.ensures.err) in
    search (rules, begun)

pub tried_answer-requires-clause-few : goal.tried_answer-requires-clause-few
tried_answer-requires-clause-few g c =
    let list = list_data c.args.list.now in
    let items = c.in_ok-attempts.attempts.items in
    let few = few_kept c.args.name.now list.files list.setups (map fitted_data c.args.fits.now) (map attempt_data items) (g.H.Shelf.state c.args.shelf.now) (g.H.Shelf.state c.try_all.new.shelf) c.requires.setups.few_setups c.requires.fits c.in_ok-attempts.ensures.ok in
    let same : length c.as_slice.result.now ≡ length items = rw c.as_slice.ensures.value (λ i. length items) in
    omega (arith, same, few, length-map items attempt_data)

pub tried_answer-requires-clause-kept : goal.tried_answer-requires-clause-kept
tried_answer-requires-clause-kept g c =
    rw c.as_slice.ensures.value (each_kept c.args.name.now (map fitted_data c.args.fits.now) (map attempt_data c.in_ok-attempts.attempts.items) (g.H.Shelf.state c.args.shelf.now) (g.H.Shelf.state c.try_all.new.shelf) c.in_ok-attempts.ensures.ok)

pub returns-in_err-tried_answer-clause-begins : goal.returns-in_err-tried_answer-clause-begins
returns-in_err-tried_answer-clause-begins g c =
    let list = list_data c.args.list.now in
    let fits = map fitted_data c.args.fits.now in
    let begun : (g.H.Shelf.state c.try_all.new.shelf ≡ g.H.Shelf.state c.args.shelf.now) ⊎ StoresBeginning (IsListBeginning c.args.name.now (list_data c.args.list.now)) (g.H.Shelf.state c.args.shelf.now) (g.H.Shelf.state c.try_all.new.shelf) =
    inr (list_begun c.args.name.now list fits (g.H.Shelf.state c.args.shelf.now) (g.H.Shelf.state c.try_all.new.shelf) c.requires.setups.few_setups c.requires.fits
    (begun_all c.args.name.now fits (map attempt_data c.in_ok-attempts.attempts.items) (g.H.Shelf.state c.args.shelf.now) (g.H.Shelf.state c.try_all.new.shelf) c.in_ok-attempts.ensures.ok)) in
    search (rules, begun)

pub returns-clause-answer : goal.returns-clause-answer
returns-clause-answer g c =
    tried_is c.args.name.now (list_data c.args.list.now) c.in_ok-sheet.sheet.items (map fitted_data c.args.fits.now) (map attempt_data c.in_ok-attempts.attempts.items) _ (g.H.Shelf.state c.args.shelf.now) (g.H.Shelf.state c.try_all.new.shelf)
    c.in_ok-sheet.ensures c.requires.setups.few_setups c.requires.fits c.in_ok-attempts.ensures.ok (rw c.as_slice.ensures.value at c.in_ok-tried_answer.ensures.answer)
