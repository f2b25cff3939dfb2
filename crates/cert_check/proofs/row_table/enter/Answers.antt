use Rattle.std.proofs.Common.{◌≡◌, ◌+◌, ℕ, length, set, get_or, arith, refl, sym, ◌∙◌, ap, subst, length-set}
use Rattle.cert_lines.specs.declared.row_head.RowHead.{RowHead}
use Rattle.plan_cert.specs.KeyPlaces.{key_place}
use Rattle.cert_check.specs.RowTable.{IsIndexed}
use Rattle.plan_cert.proofs.RowOrder.{few_rows, number_within}
use Rattle.cert_check.proofs.Indexes.{index_starts, index_grows}
use Rattle.cert_check.proofs.row_table.enter.Goals as goal

pub loop-row-init : goal.loop-row-init
loop-row-init c = record {
  count = refl;
  indexed = subst (IsIndexed c.args.rows.now 0) (sym c.requires.places) (index_starts c.args.rows.now (length c.args.places.now));
}

pub overflow_cast-places : goal.overflow_cast-places
overflow_cast-places c =
    let few = few_rows c.args.job.now c.requires.valid c.args.rows.now c.requires.rows in
    let within = c.loop-row-test.true in
    omega (arith, few, within)

pub overflow_add-places : goal.overflow_add-places
overflow_add-places c =
    let few = few_rows c.args.job.now c.requires.valid c.args.rows.now c.requires.rows in
    let within = c.loop-row-test.true in
    omega (arith, few, within)

pub bounds-places-key_place : goal.bounds-places-key_place
bounds-places-key_place c =
    let fits = number_within c.args.job.now c.requires.valid c.args.rows.now c.requires.rows c.loop-row.row c.index-rows-row.result c.loop-row-test.true in
    let number : c.key_place.result ≡ key_place (get_or c.args.rows.now c.loop-row.row c.index-rows-row.result).key = c.key_place.ensures ∙ ap (λ (row : RowHead). key_place row.key) c.index-rows-row.is in
    let count = c.loop-row.invariant.count in
    let all = c.requires.count in
    omega (arith, fits, number, count, all)

pub loop-row-preserved : goal.loop-row-preserved
loop-row-preserved c =
    let number : c.key_place.result ≡ key_place (get_or c.args.rows.now c.loop-row.row c.index-rows-row.result).key = c.key_place.ensures ∙ ap (λ (row : RowHead). key_place row.key) c.index-rows-row.is in
    record {
      count = length-set c.loop-row.places c.key_place.result (c.loop-row.row + 1) ∙ c.loop-row.invariant.count;
      indexed = subst (λ (n : ℕ). IsIndexed c.args.rows.now (c.loop-row.row + 1) (set c.loop-row.places n (c.loop-row.row + 1))) (sym number)
          (index_grows c.args.job.now c.requires.valid c.args.rows.now c.requires.rows c.loop-row.places (c.loop-row.invariant.count ∙ c.requires.count) c.loop-row.row c.loop-row-test.true c.index-rows-row.result c.loop-row.invariant.indexed);
    }

pub returns-clause-indexed : goal.returns-clause-indexed
returns-clause-indexed c =
    let end : c.loop-row.row ≡ length c.args.rows.now = let past = c.loop-row-test.false in let far = c.loop-row.auto.row-end in omega (arith, past, far) in
    subst (λ (n : ℕ). IsIndexed c.args.rows.now n c.loop-row.places) end c.loop-row.invariant.indexed
