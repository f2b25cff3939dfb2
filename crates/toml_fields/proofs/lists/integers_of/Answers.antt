use Rattle.std.proofs.Common.{◌<◌, ◌≤◌, length, map, sym, ◌∙◌, length-set, FitsSigned, w64, arith, rules}
use Rattle.std.proofs.lemmas.List.{length-map}
use Rattle.std.proofs.lemmas.Int.{to_z-of_z}
use Rattle.toml.specs.View.{view}
use Rattle.toml_fields.proofs.Integers.{goes_on, is_done, whole_row}
use Rattle.toml_fields.proofs.lists.integers_of.Goals as goal

pub loop-i-preserved : goal.loop-i-preserved
loop-i-preserved g c =
    let inside : c.loop-i.i < length c.loop-i.integers = omega (arith, c.loop-i.invariant.room) in
    let fits : FitsSigned w64 c.in_ok-integers.field-0 = search rules in
    record {
      room = length-set _ _ _ ∙ c.loop-i.invariant.room;
      reads = simp to_z-of_z (goes_on view c.in_ok-items.items.now c.index-items-i.result c.loop-i.i c.loop-i.integers c.in_ok-integers.field-0 _ c.loop-i-test.true inside c.index-items-i.is (sym c.in_ok-integers.ensures) c.loop-i.invariant.reads);
    }

pub returns : goal.returns
returns g c =
    let full : length c.loop-i.integers ≤ c.loop-i.i = omega (arith, c.loop-i.invariant.room) in
    let all = is_done view c.in_ok-items.items.now c.loop-i.i c.loop-i.integers _ c.loop-i-test.false full c.loop-i.invariant.reads in
    whole_row g.row.N (view c.args.value.now) (map view c.in_ok-items.items.now) c.loop-i.integers c.in_ok-items.ensures (length-map _ _ ∙ c.if-items.false) all
