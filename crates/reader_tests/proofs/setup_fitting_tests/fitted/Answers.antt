use Rattle.std.proofs.Common.{◌≡◌, ◌∙◌, ℕ, ◌<◌, List, ap, subst, length, get_or}
use Rattle.std.proofs.lemmas.List.{length-map}
use Rattle.job_setup.proofs.Lists.{all_at}
use Rattle.setup_choice.specs.declared.setups.OneSetup.{OneSetup}
use Rattle.setup_choice.specs.Setups.{one_setup_data, IsOneSetup}
use Rattle.reader_tests.proofs.setup_fitting_tests.fitted.Goals as goal

pub fit-requires-clause-setup : goal.fit-requires-clause-setup
fit-requires-clause-setup c =
    let items = c.in_ok-setups-2.setups.list.items in
    let one = c.index-as_slice-0.result in
    let fit = c.in_ok-setups-2.ensures.fit in
    let here : one ≡ get_or items 0 one = c.index-as_slice-0.is ∙ ap (λ (ones : List OneSetup). get_or ones 0 one) c.as_slice.ensures.value in
    let within : 0 < length items = subst (λ (n : ℕ). 0 < n) (length-map items one_setup_data) fit.some_setup in
    all_at IsOneSetup one_setup_data items 0 one fit.each within here
