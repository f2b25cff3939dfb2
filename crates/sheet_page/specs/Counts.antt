-- The table of how often each bend is refused for each kind of reasons.
use Rattle.std.specs.Prelude.{ℕ, nat_lt, Bool, pos, List, [], ◌∷◌, ◌++◌, codes, flat_map, if◌then◌else◌}
use Rattle.std.specs.List.{list_any}
use Rattle.std.specs.Fmt.{signed_decimal}
use Rattle.brake_base.specs.Masks.{numbers_to}
use Rattle.part_file.specs.Part.{face_at}
use Rattle.job_setup.specs.Setup.{JobData, bend_count}
use Rattle.svg_text.specs.Escapes.{escaped}
use Rattle.svg_text.specs.Forms.{line_of}
use Rattle.sheet_words.specs.Lists.{plural}
use Rattle.sheet_words.specs.Reasons.{kind_words}
use Rattle.sheet_page.specs.declared.counts.TheConstants.{COUNTED_OVER, IN_CERTIFICATE, IN_THE_WAY, KINDS}
use Rattle.sheet_page.specs.declared.forms.TheConstants.{CAPTION, COUNT, COUNT_HEAD, COUNT_HEAD_END}
use Rattle.sheet_page.specs.declared.forms.TheConstants.{COUNT_KIND, COUNT_ROW, COUNT_ROW_END, H2}
use Rattle.sheet_page.specs.declared.forms.TheConstants.{SECTION, SECTION_END, TABLE, TABLE_END}

-- some bend is refused for a kind of reasons, where each bend and kind has this count
abbrev pub occurs : (count : ℕ → ℕ → ℕ) → (kind : ℕ) → Bool
occurs count kind = list_any (λ bend. nat_lt 0 (count bend kind)) (numbers_to 12)

-- the column of a kind, where it occurs
unfoldable pub kind_head : (count : ℕ → ℕ → ℕ) → (kind : ℕ) → List ℕ
kind_head count kind =
    if occurs count kind then line_of COUNT_KIND.now (escaped (kind_words kind) ∷ []) else []

-- the count of a bend and a kind, where the kind occurs
unfoldable pub count_cell : (count : ℕ → ℕ → ℕ) → (bend kind : ℕ) → List ℕ
count_cell count bend kind =
    if occurs count kind then line_of COUNT.now (signed_decimal (pos (count bend kind)) ∷ []) else []

-- the row of a bend: its number, the name of its flange, and its counts
unfoldable pub count_row : JobData → (count : ℕ → ℕ → ℕ) → (bend : ℕ) → List ℕ
count_row job count bend =
    line_of COUNT_ROW.now
    (signed_decimal (pos bend) ∷ escaped (face_at job.part.faces bend).name ∷ [])
    ++ flat_map (count_cell count bend) KINDS ++ line_of COUNT_ROW_END.now []

-- over how many states the refusals are counted
unfoldable pub count_caption : (states : ℕ) → List ℕ
count_caption states = COUNTED_OVER.now ++ plural states (codes "state") ++ IN_CERTIFICATE.now

-- the table: a column for each kind that occurs, and a row for each bend
unfoldable pub count_table : JobData → (count : ℕ → ℕ → ℕ) → (states : ℕ) → List ℕ
count_table job count states =
    line_of TABLE.now [] ++ line_of CAPTION.now (escaped (count_caption states) ∷ [])
    ++ line_of COUNT_HEAD.now [] ++ flat_map (kind_head count) KINDS ++ line_of COUNT_HEAD_END.now []
    ++ flat_map (count_row job count) (numbers_to (bend_count job)) ++ line_of TABLE_END.now []

unfoldable pub counts_text : JobData → (count : ℕ → ℕ → ℕ) → (states : ℕ) → List ℕ
counts_text job count states =
    line_of SECTION.now ([] ∷ []) ++ line_of H2.now (escaped IN_THE_WAY.now ∷ [])
    ++ count_table job count states ++ line_of SECTION_END.now []
