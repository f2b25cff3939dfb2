-- Tests that decide rules of a tool.
use Rattle.std.proofs.Common.{ℕ, ℤ, pos, neg_ℤ, Bool, List, All, Decides, refl}
use Rattle.std.specs.List.{list_all}
use Rattle.std.proofs.lemmas.Bool.Decides.{Decides-and, Decides-like, Decides-by_and}
use Rattle.brake_base.specs.declared.plane.Rect.{Rect}
use Rattle.toml_fields.specs.Ranges.{is_within, is_range}
use Rattle.toml_fields.proofs.Decided.{within_decided, range_decided}
use Rattle.tool_library.specs.Bounds.{farthest_across, least_section_length, greatest_section_length, least_section_count, greatest_section_count}
use Rattle.tool_library.specs.Tools.{IsBodyBox, IsSection}
use Rattle.tool_library.specs.ToolsFile.{is_body_box, is_section}

box_decided : (low high : ℤ) (box : Rect) → Decides (is_body_box low high box) (IsBodyBox low high box)
box_decided low high box =
    let across = range_decided (neg_ℤ farthest_across) farthest_across box.y0 box.y1 in
    let both = Decides-and (is_range (neg_ℤ farthest_across) farthest_across box.y0 box.y1) (is_range low high box.z0 box.z1) across (range_decided low high box.z0 box.z1) in
    Decides-like (is_body_box low high box) (λ p. record { across = p.0; upwards = p.1 }) (λ b. (b.across, b.upwards)) both

section_decided : (section : ℤ × ℕ) → Decides (is_section section.0 (pos section.1)) (IsSection section)
section_decided section =
    let length = within_decided least_section_length greatest_section_length section.0 in
    let both = Decides-and (is_within least_section_length greatest_section_length section.0) (is_within least_section_count greatest_section_count (pos section.1)) length (within_decided least_section_count greatest_section_count (pos section.1)) in
    Decides-like (is_section section.0 (pos section.1)) (λ p. record { length = p.0; count = p.1 }) (λ s. (s.length, s.count)) both

-- a test of each element
each_decided : {A : Type 0} (test : A → Bool) (P : A → Type 0) → ((x : A) → Decides (test x) (P x)) → (xs : List A) → Decides (list_all test xs) (All P xs)
each_decided test P decided xs = Decides-by_and test P (list_all test) decided refl (λ x ys. refl) xs

pub boxes_decided : (low high : ℤ) (boxes : List Rect) → Decides (list_all (is_body_box low high) boxes) (All (IsBodyBox low high) boxes)
boxes_decided low high boxes = each_decided (is_body_box low high) (IsBodyBox low high) (box_decided low high) boxes

pub sections_decided : (sections : List (ℤ × ℕ)) → Decides (list_all (λ section. is_section section.0 (pos section.1)) sections) (All IsSection sections)
sections_decided sections = each_decided (λ section. is_section section.0 (pos section.1)) IsSection section_decided sections
