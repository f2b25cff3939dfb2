use Rattle.std.proofs.Common.{◌≡◌, ◌∙◌, ℕ, ◌++◌, length, ap, arith}
use Rattle.std.specs.List.{flat_map, range_with_len}
use Rattle.sheet_views.specs.declared.hazards.Hazard.TheVariants.{Punch}
use Rattle.sheet_views.specs.Hazards.{warning_of}
use Rattle.sheet_views.proofs.Reach.{station_more}
use Rattle.sheet_views.proofs.hazards.put_punches.Goals as goal

pub loop-station-preserved : goal.loop-station-preserved
loop-station-preserved c = record {
  few = omega (arith, c.put_warning.ensures.few, c.loop-station.invariant.few);
  value = station_more (λ (i : ℕ). warning_of c.args.job.now c.args.fingers.now (Punch i)) c.args.found.now.items c.loop-station.found.items c.put_warning.new.found.items c.loop-station.station c.loop-station.invariant.value c.put_warning.ensures.value;
}

pub returns-clause-value : goal.returns-clause-value
returns-clause-value c =
    let all : c.loop-station.station ≡ length c.args.job.now.setup.stages = omega (arith, c.loop-station-test.false, c.stages-station-end.ensures.value) in
    c.loop-station.invariant.value ∙ ap (λ (n : ℕ). c.args.found.now.items ++ flat_map (λ (i : ℕ). warning_of c.args.job.now c.args.fingers.now (Punch i)) (range_with_len 0 n)) all
