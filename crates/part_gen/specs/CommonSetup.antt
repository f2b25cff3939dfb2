-- The setup on which all made jobs are bent. Lengths are in micrometres, costs in tenths of a
-- second.
use Rattle.std.specs.Prelude.{ℤ, pos, neg_ℤ, ◌+ℤ◌, [], ◌∷◌, codes, false}
use Rattle.brake_base.specs.declared.plane.Rect.{Rect}
use Rattle.tool_library.specs.Tools.{PunchData, DieData}
use Rattle.machine_file.specs.declared.machine.Fixed.{Fixed}
use Rattle.machine_file.specs.declared.machine.GaugeRule.{GaugeRule}
use Rattle.machine_file.specs.declared.machine.Costs.{Costs}
use Rattle.job_setup.specs.Setup.{StageData, SetupData}

abbrev pub rect : ℤ → ℤ → ℤ → ℤ → Rect
rect y0 y1 z0 z1 = record { y0 = y0; y1 = y1; z0 = z0; z1 = z1 }

-- a straight punch, 100 mm high
abbrev pub punch_p100 : PunchData
punch_p100 =
    record {
      name = codes "P100";
      height = pos 100000;
      nose = pos 6000;
      body = rect (neg_ℤ (pos 6000)) (pos 6000) (pos 6000) (pos 100000) ∷ [];
      sections = [];
      limit = pos 0;
    }

-- a die with an opening of 16 mm, 60 mm high
abbrev pub die_d16 : DieData
die_d16 = record {
  name = codes "D16";
  height = pos 60000;
  v = pos 16000;
  least_flange = pos 11000;
  body =
      rect (neg_ℤ (pos 20000)) (neg_ℤ (pos 8000)) (neg_ℤ (pos 60000)) (pos 0)
      ∷ rect (neg_ℤ (pos 8000)) (pos 8000) (neg_ℤ (pos 60000)) (neg_ℤ (pos 8000))
      ∷ rect (pos 8000) (pos 20000) (neg_ℤ (pos 60000)) (pos 0) ∷ [];
  sections = [];
  limit = pos 0;
}

-- a stage with these tools and one piece
abbrev pub stage_at : ℤ → ℤ → StageData
stage_at at piece =
    record {
      punch = punch_p100;
      die = die_d16;
      x0 = at;
      x1 = at +ℤ piece;
      pieces = piece ∷ [];
      load = pos 0;
      limit = pos 0;
    }

-- a box over the whole bed
abbrev pub box_over : Rect → Fixed
box_over r = record { x0 = pos 0; x1 = pos 3000000; rect = r }

abbrev pub gauge_rule : GaugeRule
gauge_rule =
    record {
      near = pos 5000;
      far = pos 600000;
      inset = pos 5000;
      finger = pos 10000;
      gap = pos 10000;
      depth = pos 20000;
      above = pos 10000;
      below = pos 10000;
    }

abbrev pub handling_costs : Costs
handling_costs = record { stroke = 100; quarter = 20; half = 30; flip = 60; roll = 80; stage = 40 }

-- a bed of 3 m with a stage of 100 mm and one of 60 mm, without gang strokes, without a limit of
-- force and with whole covers
unfoldable pub common_setup : SetupData
common_setup = record {
  bed = (pos 0, pos 3000000);
  frames = [];
  upper = box_over (rect (neg_ℤ (pos 60000)) (pos 60000) (pos 0) (pos 300000)) ∷ [];
  lower = box_over (rect (neg_ℤ (pos 30000)) (pos 30000) (neg_ℤ (pos 300000)) (pos 0)) ∷ [];
  uncovered = pos 5000;
  gauge = gauge_rule;
  cost = handling_costs;
  stages = stage_at (pos 200000) (pos 100000) ∷ stage_at (pos 600000) (pos 60000) ∷ [];
  gang = false;
  force = pos 0;
  fine = 0;
}
