-- The head of a page.
use Rattle.std.specs.Prelude.{ℤ, pos, ◌*ℤ◌, ℕ, List, [], ◌∷◌, ◌++◌, flat_map}
use Rattle.std.specs.Fmt.{signed_decimal}
use Rattle.part_file.specs.Part.{PartData, face_at}
use Rattle.job_setup.specs.Setup.{JobData}
use Rattle.svg_text.specs.Escapes.{escaped}
use Rattle.svg_text.specs.Forms.{line_of}
use Rattle.sheet_words.specs.Lists.{mm}
use Rattle.sheet_page.specs.declared.forms.TheConstants.{DOCTYPE, HTML, PAGE_TITLE, STYLE_BEGIN}
use Rattle.sheet_page.specs.declared.forms.TheConstants.{STYLE_END, HEADING, MATERIAL, VERDICT}
use Rattle.sheet_page.specs.declared.style.TheConstants.{STYLE}

-- the style, which is the same on every page
unfoldable pub style_text : List ℕ
style_text =
    line_of STYLE_BEGIN.now [] ++ flat_map (λ line. line_of line.now []) STYLE
    ++ line_of STYLE_END.now []

-- the material, the thickness, the inside radius, and what the outside sizes lose at a bend
unfoldable pub material_line : PartData → (q : ℤ) → List ℕ
material_line part q =
    line_of MATERIAL.now
    (escaped part.material ∷ mm part.thickness ∷ mm part.radius ∷ mm (pos 2 *ℤ q) ∷ [])

-- the name of the part, which is that of face 0
abbrev pub part_name : JobData → List ℕ
part_name job = (face_at job.part.faces 0).name

-- what comes before the material
unfoldable pub title_text : JobData → (verdict : List ℕ) → List ℕ
title_text job verdict =
    line_of DOCTYPE.now [] ++ line_of HTML.now []
    ++ line_of PAGE_TITLE.now (escaped (part_name job) ∷ escaped verdict ∷ [])
    ++ style_text ++ line_of HEADING.now (escaped (part_name job) ∷ [])

-- The head: the title, the material, and the verdict in two sentences, with how many bytes the
-- certificate has.
unfoldable pub head_text : JobData → (verdict detail : List ℕ) → (size : ℤ) → List ℕ
head_text job verdict detail size =
    title_text job verdict ++ material_line job.part job.q
    ++ line_of VERDICT.now (escaped verdict ∷ escaped detail ∷ signed_decimal size ∷ [])
