-- The common setup is valid.
use Rattle.std.proofs.Common.{ℤ, pos, neg_ℤ, ◌≤ℤ◌, [], ◌∷◌, refl, arith}
use Rattle.std.specs.Prelude.{All}
use Rattle.std.proofs.lemmas.Int.{ints}
use Rattle.std.proofs.lemmas.List.Elements.{All-nil, All-cons}
use Rattle.brake_base.specs.declared.plane.Rect.{Rect}
use Rattle.tool_library.specs.Tools.{IsPunch, IsDie, IsBodyBox, IsSection}
use Rattle.machine_file.specs.declared.machine.Fixed.{Fixed}
use Rattle.toml_fields.specs.Ranges.{IsWithin}
use Rattle.machine_file.specs.Machine.{coordinate_limit, IsBedRange, IsFixed, IsGaugeRule}
use Rattle.job_setup.specs.Setup.{StageData}
use Rattle.job_setup.specs.Places.{places_fit}
use Rattle.job_setup.specs.ValidJob.{IsStage, IsSetup}
use Rattle.part_gen.specs.CommonSetup.{rect, punch_p100, die_d16, stage_at, box_over, gauge_rule, common_setup}

-- a list of one item
alone : {X : Type 0} (P : X → Type 0) (x : X) → P x → All P (x ∷ [])
alone P x fits = All-cons P x [] fits (All-nil P)

punch_box : IsBodyBox (pos 0) (pos 100000) (rect (neg_ℤ (pos 6000)) (pos 6000) (pos 6000) (pos 100000))
punch_box = record { across = record { order = omega (arith, ints); bottom = omega (arith, ints); top = omega (arith, ints) }; upwards = record { order = omega (arith, ints); bottom = omega (arith, ints); top = omega (arith, ints) } }

is_punch : IsPunch punch_p100
is_punch = record {
  name = refl;
  sizes = record { height = record { bottom = omega (arith, ints); top = omega (arith, ints) }; nose = record { bottom = omega (arith, ints); top = omega (arith, ints) }; limit = record { bottom = omega (arith, ints); top = omega (arith, ints) } };
  lists = record {
    few_boxes = omega arith;
    each_box = alone (IsBodyBox (pos 0) (pos 100000)) (rect (neg_ℤ (pos 6000)) (pos 6000) (pos 6000) (pos 100000)) punch_box;
    few_sections = omega arith;
    each_section = All-nil IsSection;
  };
}

abbrev IsDieBox : Rect → Type 0
IsDieBox box = IsBodyBox (neg_ℤ (pos 60000)) (pos 0) box

abbrev shoulder : Rect
shoulder = rect (neg_ℤ (pos 20000)) (neg_ℤ (pos 8000)) (neg_ℤ (pos 60000)) (pos 0)

abbrev bottom_box : Rect
bottom_box = rect (neg_ℤ (pos 8000)) (pos 8000) (neg_ℤ (pos 60000)) (neg_ℤ (pos 8000))

abbrev far_shoulder : Rect
far_shoulder = rect (pos 8000) (pos 20000) (neg_ℤ (pos 60000)) (pos 0)

is_shoulder : IsDieBox shoulder
is_shoulder = record { across = record { order = omega (arith, ints); bottom = omega (arith, ints); top = omega (arith, ints) }; upwards = record { order = omega (arith, ints); bottom = omega (arith, ints); top = omega (arith, ints) } }

is_bottom : IsDieBox bottom_box
is_bottom = record { across = record { order = omega (arith, ints); bottom = omega (arith, ints); top = omega (arith, ints) }; upwards = record { order = omega (arith, ints); bottom = omega (arith, ints); top = omega (arith, ints) } }

is_far_shoulder : IsDieBox far_shoulder
is_far_shoulder = record { across = record { order = omega (arith, ints); bottom = omega (arith, ints); top = omega (arith, ints) }; upwards = record { order = omega (arith, ints); bottom = omega (arith, ints); top = omega (arith, ints) } }

is_die : IsDie die_d16
is_die = record {
  name = refl;
  sizes = record { height = record { bottom = omega (arith, ints); top = omega (arith, ints) }; v = record { range = record { bottom = omega (arith, ints); top = omega (arith, ints) }; even = refl }; least_flange = record { bottom = omega (arith, ints); top = omega (arith, ints) }; limit = record { bottom = omega (arith, ints); top = omega (arith, ints) } };
  lists = record {
    few_boxes = omega arith;
    each_box = All-cons IsDieBox shoulder (bottom_box ∷ far_shoulder ∷ []) is_shoulder (All-cons IsDieBox bottom_box (far_shoulder ∷ []) is_bottom (alone IsDieBox far_shoulder is_far_shoulder));
    few_sections = omega arith;
    each_section = All-nil IsSection;
  };
}

is_stage : (at piece : ℤ) → pos 0 ≤ℤ at → at ≤ℤ pos 1000000 → pos 1 ≤ℤ piece → piece ≤ℤ pos 1000000 → IsStage (stage_at at piece)
is_stage at piece at_low at_high piece_low piece_high = record {
  punch = is_punch;
  die = is_die;
  no_punch_sections = refl;
  no_die_sections = refl;
  no_punch_limit = refl;
  no_die_limit = refl;
  at = record { bottom = omega (arith, ints); top = omega (arith, ints) };
  long = omega (arith, ints);
  some_piece = omega arith;
  few_pieces = omega arith;
  pieces = alone (IsWithin (pos 1) (pos 10000000)) piece (record { bottom = piece_low; top = omega (arith, ints) });
  load = record { bottom = omega (arith, ints); top = omega (arith, ints) };
  limit = record { bottom = omega (arith, ints); top = omega (arith, ints) };
}

abbrev stage_a : StageData
stage_a = stage_at (pos 200000) (pos 100000)

abbrev stage_b : StageData
stage_b = stage_at (pos 600000) (pos 60000)

is_stage_a : IsStage stage_a
is_stage_a = is_stage (pos 200000) (pos 100000) (omega (arith, ints)) (omega (arith, ints)) (omega (arith, ints)) (omega (arith, ints))

is_stage_b : IsStage stage_b
is_stage_b = is_stage (pos 600000) (pos 60000) (omega (arith, ints)) (omega (arith, ints)) (omega (arith, ints)) (omega (arith, ints))

abbrev beam : Fixed
beam = box_over (rect (neg_ℤ (pos 60000)) (pos 60000) (pos 0) (pos 300000))

abbrev bed_box : Fixed
bed_box = box_over (rect (neg_ℤ (pos 30000)) (pos 30000) (neg_ℤ (pos 300000)) (pos 0))

is_beam : IsFixed (pos 0) coordinate_limit beam
is_beam = record { footprint = record { along = record { order = omega (arith, ints); bottom = omega (arith, ints); top = omega (arith, ints) }; across = record { order = omega (arith, ints); bottom = omega (arith, ints); top = omega (arith, ints) } }; upwards = record { order = omega (arith, ints); bottom = omega (arith, ints); top = omega (arith, ints) } }

is_bed_box : IsFixed (neg_ℤ coordinate_limit) (pos 0) bed_box
is_bed_box = record { footprint = record { along = record { order = omega (arith, ints); bottom = omega (arith, ints); top = omega (arith, ints) }; across = record { order = omega (arith, ints); bottom = omega (arith, ints); top = omega (arith, ints) } }; upwards = record { order = omega (arith, ints); bottom = omega (arith, ints); top = omega (arith, ints) } }

is_gauge_rule : IsGaugeRule gauge_rule
is_gauge_rule = record {
  near = record { bottom = omega (arith, ints); top = omega (arith, ints) };
  far = record { bottom = omega (arith, ints); top = omega (arith, ints) };
  inset = record { bottom = omega (arith, ints); top = omega (arith, ints) };
  finger = record { bottom = omega (arith, ints); top = omega (arith, ints) };
  gap = record { bottom = omega (arith, ints); top = omega (arith, ints) };
  depth = record { bottom = omega (arith, ints); top = omega (arith, ints) };
  above = record { bottom = omega (arith, ints); top = omega (arith, ints) };
  below = record { bottom = omega (arith, ints); top = omega (arith, ints) };
}

pub is_setup : IsSetup common_setup
unfolding common_setup places_fit
is_setup = record {
  fixtures = record {
    frames = All-nil IsBedRange;
    few_frames = omega arith;
    upper = alone (IsFixed (pos 0) coordinate_limit) beam is_beam;
    few_upper = omega arith;
    lower = alone (IsFixed (neg_ℤ coordinate_limit) (pos 0)) bed_box is_bed_box;
    few_lower = omega arith;
  };
  rules = record {
    bed = record { order = omega (arith, ints); bottom = omega (arith, ints); top = omega (arith, ints) };
    gauge = is_gauge_rule;
    cost = record { stroke = omega arith; quarter = omega arith; half = omega arith; flip = omega arith; roll = omega arith; stage = omega arith };
    uncovered = record { bottom = omega (arith, ints); top = omega (arith, ints) };
    force = record { bottom = omega (arith, ints); top = omega (arith, ints) };
    fine = omega arith;
  };
  stages = record {
    each = All-cons IsStage stage_a (stage_b ∷ []) is_stage_a (alone IsStage stage_b is_stage_b);
    few_stages = omega arith;
    places = refl;
  };
}
