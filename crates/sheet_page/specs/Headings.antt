-- The heading of a stroke. Lengths are in micrometres.
use Rattle.std.specs.Prelude.{ℕ, zero, suc, nat_lt, ℤ, Bool, false, not, ◌&&◌, ◌||◌}
use Rattle.std.specs.Prelude.{List, [], ◌∷◌, ◌++◌, codes, length, map, if◌then◌else◌, pos}
use Rattle.std.specs.Ordering.{int_eq}
use Rattle.std.specs.List.{list_any}
use Rattle.std.specs.Fmt.{signed_decimal}
use Rattle.brake_base.specs.declared.mask.Mask.{Mask}
use Rattle.brake_base.specs.Masks.{has, bends_of}
use Rattle.part_file.specs.declared.part.Dir.{Dir}
use Rattle.part_file.specs.declared.part.Dir.TheVariants.{Up, Down}
use Rattle.part_file.specs.declared.part.Side.TheVariants.{N}
use Rattle.part_file.specs.Part.{face_at, same_side}
use Rattle.unfolder.specs.Cores.{joint_of}
use Rattle.job_setup.specs.Setup.{JobData, bend_count}
use Rattle.svg_text.specs.Escapes.{escaped}
use Rattle.svg_text.specs.Forms.{line_of}
use Rattle.sheet_page.specs.declared.forms.TheConstants.{H2_STROKE}
use Rattle.sheet_page.specs.declared.stroke_heading.TheConstants.{UP, DOWN, OUTSIDE}
use Rattle.sheet_figures.specs.BendWords.{bend_words}
use Rattle.sheet_page.specs.Lists.{name_words, length_words}
use Rattle.sheet_page.specs.Strokes.{StrokeData, bends_in}

-- the bend stands on the outer edge of one of these flanges
abbrev pub is_beyond : JobData → (flanges : Mask) → (bend : ℕ) → Bool
is_beyond job flanges bend =
    let joint = joint_of job.part.faces bend in
    same_side joint.side N && (nat_lt 0 joint.on && has flanges joint.on)

-- such a bend, one of the first n, isn't folded
abbrev pub is_flat_among : JobData → (folded flanges : Mask) → (n : ℕ) → Bool
is_flat_among job folded flanges zero = false
is_flat_among job folded flanges (suc n) =
    (not (has folded (suc n)) && is_beyond job flanges (suc n))
    || is_flat_among job folded flanges n

-- such a bend isn't folded
unfoldable pub is_still_flat : JobData → (folded flanges : Mask) → Bool
is_still_flat job folded flanges = is_flat_among job folded flanges (bend_count job)

-- a length, where it isn't among those that were told, and the different ones of some lengths in
-- order, behind those that were told
abbrev pub with_length : (told : List ℤ) → ℤ → List ℤ
with_length told length =
    if list_any (λ other. int_eq other length) told then told else told ++ length ∷ []

abbrev pub different : (told lengths : List ℤ) → List ℤ
different told [] = told
different told (length ∷ lengths) = different (with_length told length) lengths

-- the different lengths of some flanges
abbrev pub lengths_of : JobData → List ℕ → List ℤ
lengths_of job flanges = different [] (map (λ flange. (face_at job.part.faces flange).length) flanges)

-- the direction of a stroke
unfoldable pub dir_words : Dir → List ℕ
dir_words Up = UP.now
dir_words Down = DOWN.now

-- the different lengths of a group's flanges in words
unfoldable pub group_lengths : JobData → Mask → List ℕ
group_lengths job group =
    length_words 0 (length (lengths_of job (bends_of group))) (lengths_of job (bends_of group))

-- how high the flanges of a group are over the outside, where no bend on their outer edges is still
-- flat, so that it can be measured
unfoldable pub measured_words : JobData → (group : Mask) → List ℕ
measured_words job group = codes ", " ++ group_lengths job group ++ OUTSIDE.now

unfoldable pub height_words : JobData → (folded group : Mask) → List ℕ
height_words job folded group =
    if is_still_flat job folded group then [] else measured_words job group

-- the direction, and the height
unfoldable pub way_words : JobData → StrokeData → List ℕ
way_words job stroke =
    dir_words (joint_of job.part.faces stroke.step.action.bend).dir
    ++ height_words job stroke.after.mask stroke.drawing.pose.group

-- `Bend B: NAME`, or `Bends B and C: NAME and NAME`
unfoldable pub bends_words : JobData → (bends : List ℕ) → List ℕ
bends_words job bends =
    bend_words bends ++ codes ": " ++ name_words job 0 (length bends) bends

-- the line of a heading: the stroke's number, of so many, its bends in words, and the way they are
-- bent
abbrev pub titled_line : (number count : ℕ) → (bends way : List ℕ) → List ℕ
titled_line number count bends way =
    line_of H2_STROKE.now
    (signed_decimal (pos number) ∷ escaped bends ∷ escaped way ∷ signed_decimal (pos number)
    ∷ signed_decimal (pos count) ∷ [])

-- the heading of a stroke, of so many
abbrev pub heading_line : JobData → (count : ℕ) → StrokeData → List ℕ
heading_line job count stroke =
    titled_line stroke.number count (bends_words job (bends_in stroke)) (way_words job stroke)
