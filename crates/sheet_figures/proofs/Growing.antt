-- Texts that grow, one after the other.
use Rattle.std.proofs.Common.{◌≡◌, ℕ, ℤ, List, ◌++◌, Option, append_assoc, ap, refl, ◌∙◌}
use Rattle.sheet_paper.specs.declared.window.Window.{Window}
use Rattle.sheet_views.specs.declared.part_views.DrawnBox.{DrawnBox}
use Rattle.sheet_figures.specs.Extending.{Extends}
use Rattle.sheet_figures.specs.SideViews.{group_end}
use Rattle.sheet_paper.specs.FigureLines.{end_line}
use Rattle.sheet_figures.specs.Bodies.{IsPartView, bend_mark}

pub grown : (before text : List ℕ) {now : List ℕ} → now ≡ before ++ text → Extends before now
grown before text is = (text, is)

pub grows_on : (before : List ℕ) {mid now : List ℕ} → Extends before mid → Extends mid now → Extends before now
grows_on before first second =
    (first.0 ++ second.0, second.1 ∙ ap (λ (t : List ℕ). t ++ second.0) first.1 ∙ append_assoc before first.0 second.0)

-- three texts, one after the other
pub three_more : (before a b c : List ℕ) {n m now : List ℕ} → n ≡ before ++ a → m ≡ n ++ b → now ≡ m ++ c → now ≡ before ++ a ++ b ++ c
three_more before a b c first second third =
    third ∙ ap (λ (t : List ℕ). t ++ c) (second ∙ ap (λ (t : List ℕ). t ++ b) first)

-- five
pub five_more : (before a b c d e : List ℕ) {n m o p now : List ℕ} → n ≡ before ++ a → m ≡ n ++ b → o ≡ m ++ c → p ≡ o ++ d → now ≡ p ++ e → now ≡ before ++ a ++ b ++ c ++ d ++ e
five_more before a b c d e first second third fourth fifth =
    fifth ∙ ap (λ (t : List ℕ). t ++ e) (fourth ∙ ap (λ (t : List ℕ). t ++ d) (three_more before a b c first second third))

pub three_grow : (before a b c : List ℕ) {now : List ℕ} → now ≡ before ++ a ++ b ++ c → Extends before now
three_grow before a b c is = grown before (a ++ (b ++ c)) (is ∙ append_assoc (before ++ a) b c ∙ append_assoc before a (b ++ c))

-- a view of the part as a body is appended
pub view_grows : {window : Window} {title sentence : List ℕ} {boxes : List DrawnBox} {line : Option (ℤ × ℤ)} {before after : List ℕ} → IsPartView window title sentence boxes line before after → Extends before after
view_grows {window = window} {title = title} {line = line} {before = before} view =
    grows_on before (grows_on before (grown before _ refl) (grown _ _ view.boxes_painted.text))
    (three_grow view.painted (bend_mark window line) group_end (end_line window title) view.text)
