-- The stations of a page. Lengths are in micrometres, forces in newtons per millimetre.
use Rattle.std.specs.Prelude.{◌≡◌, ℕ, zero, suc, ◌+◌, ◌==◌, nat_lt, ℤ, pos, ◌+ℤ◌, ◌-ℤ◌, List, [], ◌∷◌, ◌++◌, codes}
use Rattle.std.specs.Prelude.{length, if◌then◌else◌}
use Rattle.std.specs.Ordering.{int_eq}
use Rattle.std.specs.Fmt.{signed_decimal}
use Rattle.tool_library.specs.Tools.{PunchData, DieData}
use Rattle.job_setup.specs.Setup.{StageData, JobData, stage_count}
use Rattle.job_setup.specs.StageOf.{stage_of}
use Rattle.svg_text.specs.Escapes.{escaped}
use Rattle.svg_text.specs.Forms.{line_of}
use Rattle.sheet_words.specs.Lists.{mm, plural}
use Rattle.sheet_figures.specs.Beds.{IsBedFigure}
use Rattle.sheet_figures.specs.Cards.{IsCardFigure}
use Rattle.sheet_figures.specs.Fronts.{IsFrontFigure}
use Rattle.sheet_page.specs.declared.forms.TheConstants.{CARD, CARD_ROW, CARD_TABLE, DIV_END, H2_WITH}
use Rattle.sheet_page.specs.declared.forms.TheConstants.{NEW_PAGE, SECTION, SECTION_END, TABLE_END}
use Rattle.sheet_page.specs.declared.station_part.TheConstants.{CARDS, TOOLS_BEAR}

-- a row: what it tells, and the words
abbrev pub card_row : (head words : List ℕ) → List ℕ
card_row head words = line_of CARD_ROW.now (escaped head ∷ escaped words ∷ [])

unfoldable pub punch_cell : PunchData → List ℕ
punch_cell punch = punch.name ++ codes ", " ++ mm punch.height ++ codes " mm high"

unfoldable pub die_cell : DieData → List ℕ
die_cell die =
    die.name ++ codes ", V " ++ mm die.v ++ codes " mm, " ++ mm die.height ++ codes " mm high"

unfoldable pub place_cell : (x0 x1 : ℤ) → List ℕ
place_cell x0 x1 = codes "x = " ++ mm x0 ++ codes " to " ++ mm x1 ++ codes " mm"

-- what stands before the piece at a place
unfoldable pub plus_before : ℕ → List ℕ
plus_before at = if at == 0 then [] else codes " + "

unfoldable pub added_piece : (at : ℕ) → ℤ → List ℕ
added_piece at piece = plus_before at ++ mm piece

-- the last pieces, from a place on
abbrev pub piece_words : (at : ℕ) → (pieces : List ℤ) → List ℕ
piece_words at [] = []
piece_words at (piece ∷ pieces) = added_piece at piece ++ piece_words (at + 1) pieces

-- how long they are together, where there are several
unfoldable pub sum_words : (count : ℕ) → (sum : ℤ) → List ℕ
sum_words count sum = if nat_lt 1 count then codes " = " ++ mm sum else []

-- the pieces of a stage that is so long
unfoldable pub pieces_cell : (pieces : List ℤ) → (sum : ℤ) → List ℕ
pieces_cell pieces sum =
    piece_words 0 pieces ++ sum_words (length pieces) sum ++ codes " mm"

-- what the tools bear, where that is told
unfoldable pub limit_words : ℤ → List ℕ
limit_words limit =
    if int_eq limit (pos 0) then []
    else TOOLS_BEAR.now ++ signed_decimal limit ++ codes " N/mm"

unfoldable pub force_cell : (load limit : ℤ) → List ℕ
force_cell load limit = signed_decimal load ++ codes " N/mm" ++ limit_words limit

-- the row of the force, where it is told
unfoldable pub force_row : (load limit : ℤ) → List ℕ
force_row load limit =
    if int_eq load (pos 0) then [] else card_row (codes "Force") (force_cell load limit)

-- how a stage is used: where it stands, its pieces and its force
unfoldable pub use_rows : StageData → List ℕ
use_rows stage =
    card_row (codes "On the bed") (place_cell stage.x0 stage.x1)
    ++ card_row (codes "Pieces") (pieces_cell stage.pieces (stage.x1 -ℤ stage.x0))
    ++ force_row stage.load stage.limit

-- the table of a card
unfoldable pub card_table : (number : ℕ) → StageData → List ℕ
card_table number stage =
    line_of CARD_TABLE.now (signed_decimal (pos number) ∷ [])
    ++ card_row (codes "Punch") (punch_cell stage.punch)
    ++ card_row (codes "Die") (die_cell stage.die)
    ++ card_row (codes "Least flange") (mm stage.die.least_flange ++ codes " mm")
    ++ use_rows stage ++ line_of TABLE_END.now []

-- The text goes on with the card of a station: its figure and its table. Before the stations'
-- figures are three: of the blank, of the bed, and of all stations.
pub record IsCard (job : JobData) (number : ℕ) (before after : List ℕ) : Type 0 where
  pub drawn : List ℕ
  pub figure : IsCardFigure job number (pos number +ℤ pos 4) (before ++ line_of CARD.now []) drawn
  pub text :
      after ≡ drawn ++ card_table number (stage_of job number) ++ line_of DIV_END.now []

-- the text goes on with a card for each of the first stations, so many, in order
abbrev pub AreCards : JobData → (count : ℕ) → (before after : List ℕ) → Type 0
AreCards job zero before after = after ≡ before
AreCards job (suc count) before after =
    (behind : List ℕ) × AreCards job count before behind × IsCard job count behind after

-- how many stations there are, and the heading that says so
unfoldable pub count_words : (count : ℕ) → List ℕ
count_words count = plural count (codes "station") ++ codes " on the bed"

abbrev pub station_heading : (count : ℕ) → List ℕ
station_heading count =
    line_of H2_WITH.now (escaped (codes "Stations") ∷ escaped (count_words count) ∷ [])

-- The text goes on with the section of the bed: its heading, the figure of the bed, and that of the
-- stations from the front.
pub record HasBed (job : JobData) (before after : List ℕ) : Type 0 where
  pub bed : List ℕ
  pub bed_figure :
      IsBedFigure job (pos 2)
      (before ++ line_of SECTION.now (NEW_PAGE.now ∷ []) ++ station_heading (stage_count job)) bed
  pub front : List ℕ
  pub front_figure : IsFrontFigure job (pos 3) bed front
  pub text : after ≡ front ++ line_of SECTION_END.now []

-- the text goes on with the section of the cards, one for each station, in order
pub record HasCards (job : JobData) (before after : List ℕ) : Type 0 where
  pub told : List ℕ
  pub cards : AreCards job (stage_count job) (before ++ line_of SECTION.now (CARDS.now ∷ [])) told
  pub text : after ≡ told ++ line_of SECTION_END.now []

-- the text goes on with the stations: the bed, and then the cards
abbrev pub HasStations : JobData → (before after : List ℕ) → Type 0
HasStations job before after =
    (behind : List ℕ) × HasBed job before behind × HasCards job behind after
