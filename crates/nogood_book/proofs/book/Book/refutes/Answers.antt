use Rattle.std.proofs.Common.{◌≡◌, ◌∙◌, ◌<◌, ◌≤◌, List, length, get_or, refl, sym, ap, subst, arith}
use Rattle.std.proofs.lemmas.Bool.{true≢false}
use Rattle.nogood_book.specs.declared.nogood.Nogood.{Nogood}
use Rattle.nogood_book.specs.Book.{BookData, IsNogoodLaw}
use Rattle.nogood_book.proofs.Growth.{book_fits, nogood_law}
use Rattle.nogood_book.proofs.Refuting.{none_yet, none_next, first_found, none_found, some_opposed, none_opposed}
use Rattle.nogood_book.proofs.book.Book.refutes.Goals as goal

pub loop-number-init : goal.loop-number-init
loop-number-init c = none_yet c.args.self.now.nogoods c.args.mask c.args.action

pub overflow_cast-result : goal.overflow_cast-result
overflow_cast-result c =
    let fits = book_fits c.self.inside.job c.self.invariant.0 c.self.inside.nogoods.items c.self.invariant.1 in
    omega (arith, fits, c.loop-number-test.true, c.len-number-end.ensures)

pub returns-then-refutes-clause-some : goal.returns-then-refutes-clause-some
returns-then-refutes-clause-some c =
    let book = c.args.self.now.nogoods in
    let n = c.loop-number.number in
    let one = c.index.result.now in
    let same : c.self.inside.nogoods.items ≡ book = ap (λ (b : BookData). b.nogoods) c.self.view_is in
    let within : n < length book = let long = ap length same in omega (arith, long, c.loop-number-test.true, c.len-number-end.ensures) in
    let is : get_or book n one ≡ one = sym (c.index.ensures ∙ ap (λ (l : List Nogood). get_or l n one) same) in
    first_found book c.args.mask c.args.action n one c.loop-number.invariant within is (c.refutes.ensures.0 c.if-refutes.true)

pub returns-then-refutes-clause-law : goal.returns-then-refutes-clause-law
returns-then-refutes-clause-law c = λ set at.
    let law = subst (λ (b : BookData). IsNogoodLaw b.job b.nogoods) c.self.view_is (nogood_law c.self.inside.job c.self.invariant.0 c.self.inside.nogoods.items c.self.invariant.1) in
    (λ _. some_opposed c.args.self.now law c.args.mask c.args.action c.loop-number.number (returns-then-refutes-clause-some c) set at, λ _. refl)

pub loop-number-preserved : goal.loop-number-preserved
loop-number-preserved c =
    let book = c.args.self.now.nogoods in
    let n = c.loop-number.number in
    let one = c.index.result.now in
    let same : c.self.inside.nogoods.items ≡ book = ap (λ (b : BookData). b.nogoods) c.self.view_is in
    let is : get_or book n one ≡ one = sym (c.index.ensures ∙ ap (λ (l : List Nogood). get_or l n one) same) in
    none_next book c.args.mask c.args.action n one c.loop-number.invariant is (λ refutes. true≢false (sym (c.refutes.ensures.1 refutes) ∙ c.if-refutes.false))

pub returns-clause-none : goal.returns-clause-none
returns-clause-none c =
    let book = c.args.self.now.nogoods in
    let same : c.self.inside.nogoods.items ≡ book = ap (λ (b : BookData). b.nogoods) c.self.view_is in
    let all : length book ≤ c.loop-number.number = let long = ap length same in omega (arith, long, c.loop-number-test.false, c.len-number-end.ensures) in
    none_found book c.args.mask c.args.action c.loop-number.number all c.loop-number.invariant

pub returns-clause-law : goal.returns-clause-law
returns-clause-law c = λ set at.
    let law = subst (λ (b : BookData). IsNogoodLaw b.job b.nogoods) c.self.view_is (nogood_law c.self.inside.job c.self.invariant.0 c.self.inside.nogoods.items c.self.invariant.1) in
    (λ some. absurd (true≢false (sym some)), λ opposed. absurd (none_opposed c.args.self.now law c.args.mask c.args.action (returns-clause-none c) set at opposed))
