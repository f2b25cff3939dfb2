use Rattle.std.proofs.Common.{◌≡◌, ◌∙◌, ◌+◌, ◌*◌, ◌<◌, ◌&&◌, ℕ, Bool, List, length, get_or, ap, sym, subst, arith}
use Rattle.brake_base.specs.declared.mask.Mask.{Mask}
use Rattle.brake_base.specs.Masks.{has}
use Rattle.stroke_table.specs.Records.{parent_of}
use Rattle.stroke_table.proofs.DecidingBends.{parent_low, number_low}
use Rattle.stroke_table.proofs.records.StrokeRecords.box_key.Goals as goal

pub deciding_at-deciding-requires : goal.deciding_at-deciding-requires
deciding_at-deciding-requires c =
    let job = c.args.job.now in
    let fit = c.recall_valid.ensures in
    let from = parent_low job fit c.args.stroke.now.of.group c.requires.group.some in
    let number = number_low job fit c.args.stroke.now.mask c.args.number c.requires.number in
    let few = fit.part.few_faces in
    let low = number.0 in
    let inside : 25 * c.from.result + c.from-2.result < length c.args.self.now.deciding.items = omega (arith, c.from.ensures, c.from-2.ensures, c.requires.from, from, few, low, c.requires.kept.deciding.count) in
    subst (λ (sets : List Mask). 25 * c.from.result + c.from-2.result < length sets) (sym c.deref.ensures.value) inside

pub returns-clause-box_ : goal.returns-clause-box_
returns-clause-box_ c =
    let job = c.args.job.now in
    let fit = c.recall_valid.ensures in
    let group = c.args.stroke.now.of.group in
    let mask = c.args.stroke.now.mask in
    let sets = c.args.self.now.deciding.items in
    let none : Mask = record { 0 = 0 } in
    let from = parent_low job fit group c.requires.group.some in
    let number = number_low job fit mask c.args.number c.requires.number in
    let place : 25 * c.from.result + c.from-2.result ≡ 25 * parent_of job group + c.args.number = omega (arith, c.from.ensures, c.from-2.ensures, c.requires.from) in
    let at : c.deciding_at-deciding.result ≡ get_or sets (25 * parent_of job group + c.args.number) none =
    c.deciding_at-deciding.ensures ∙ ap (λ (xs : List Mask). get_or xs (25 * c.from.result + c.from-2.result) none) c.deref.ensures.value ∙ ap (λ (k : ℕ). get_or sets k none) place in
    record {
      group = c.requires.group;
      number = c.requires.number;
      folded = λ bend first last. c.intersection.ensures bend ∙ ap (λ (t : Bool). has mask bend && t) (ap (λ (m : Mask). has m bend) at ∙ c.requires.kept.deciding.each (parent_of job group) c.args.number from number.0 number.1 bend first last);
    }
