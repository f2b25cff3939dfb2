use Rattle.std.proofs.Common.{◌∙◌, sym, subst, arith}
use Rattle.std.proofs.lemmas.Bool.{false≢true}
use Rattle.job_setup.specs.Setup.{stage_count}
use Rattle.stroke_table.specs.declared.keys.GroupKey.{GroupKey}
use Rattle.stroke_table.specs.Codes.{HoldsAmong, AreLeastCodes, IsFreeSomewhere}
use Rattle.stroke_table.proofs.FirstCodes.{joined_codes, codes_settled}
use Rattle.stroke_table.proofs.finding.find_codes.Goals as goal

pub find_rest-requires-clause-before : goal.find_rest-requires-clause-before
find_rest-requires-clause-before c =
    let job = c.args.job.now in
    let mask = c.args.stroke.now.mask in
    let key = c.args.stroke.now.of in
    let fit = c.stages-stages.ensures.valid in
    let lines = subst (λ (k : GroupKey). AreLeastCodes (stage_count job) (HoldsAmong job mask k 1 2) c.group_record-of_group.result.lines.0) c.group_record-of_group.ensures.key (c.group_record-of_group.ensures.record_.lines mask) in
    joined_codes job fit mask key 1 2 6 (stage_count job) c.group_record-of_group.result.lines.0 c.gather_boxes.new.gathered.codes.0 c.lesser-before.result.0 (omega (arith, fit.setup.stages.few_stages)) (omega arith) (omega arith) lines c.gather_boxes.ensures.codes c.lesser-before.ensures.lanes

pub find_rest-requires-clause-load : goal.find_rest-requires-clause-load
find_rest-requires-clause-load c =
    let job = c.args.job.now in
    let mask = c.args.stroke.now.mask in
    subst (λ (k : GroupKey). AreLeastCodes (stage_count job) (HoldsAmong job mask k 8 8) c.group_record-of_group.result.load.0) c.group_record-of_group.ensures.key (c.group_record-of_group.ensures.record_.load mask)

pub returns-else-is_free_somewhere-clause-found : goal.returns-else-is_free_somewhere-clause-found
returns-else-is_free_somewhere-clause-found c =
    let job = c.args.job.now in
    let mask = c.args.stroke.now.mask in
    let key = c.args.stroke.now.of in
    let fit = c.stages-stages.ensures.valid in
    let lines = subst (λ (k : GroupKey). AreLeastCodes (stage_count job) (HoldsAmong job mask k 1 2) c.group_record-of_group.result.lines.0) c.group_record-of_group.ensures.key (c.group_record-of_group.ensures.record_.lines mask) in
    let before = joined_codes job fit mask key 1 2 6 (stage_count job) c.group_record-of_group.result.lines.0 c.gather_boxes.new.gathered.codes.0 c.lesser-before.result.0 (omega (arith, fit.setup.stages.few_stages)) (omega arith) (omega arith) lines c.gather_boxes.ensures.codes c.lesser-before.ensures.lanes in
    record {
      codes = codes_settled job fit mask key 1 6 9 (stage_count job) c.lesser-before.result.0 (omega arith) before
          (λ free. false≢true (sym c.if-is_free_somewhere.false ∙ c.is_free_somewhere.ensures.1 (subst (IsFreeSomewhere c.lesser-before.result.0) (sym c.stages-stages.ensures.value) free)));
      gauge = tt;
    }
