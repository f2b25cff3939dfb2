-- Texts behind one another, as calls append them.
use Rattle.std.proofs.Common.{◌≡◌, ◌∙◌, ℕ, List, [], ◌++◌, append_assoc, ap}

-- two texts
pub two_put : (b x y : List ℕ) {o now : List ℕ} → o ≡ b ++ x → now ≡ o ++ y → now ≡ b ++ (x ++ y)
two_put b x y first second = second ∙ ap (λ (t : List ℕ). t ++ y) first ∙ append_assoc b x y

-- a text behind nothing
pub begun : (text : List ℕ) {o now : List ℕ} → o ≡ [] → now ≡ o ++ text → now ≡ text
begun text begins put = put ∙ ap (λ (t : List ℕ). t ++ text) begins

-- a text behind another
pub one_behind : (b x y : List ℕ) {o now : List ℕ} → o ≡ b ++ x → now ≡ o ++ y → now ≡ b ++ x ++ y
one_behind b x y first second = second ∙ ap (λ (t : List ℕ). t ++ y) first
