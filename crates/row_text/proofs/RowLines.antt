-- The line of a row from its parts.
use Rattle.std.proofs.Common.{◌≡◌, ℕ, List, [], ◌++◌, codes, ap, sym, ◌∙◌, append_assoc}
use Rattle.cert_lines.specs.declared.row_head.RowHead.{RowHead}
use Rattle.cert_lines.specs.Lines.{number, spaced, worth_word, line_text, row_line}
use Rattle.row_text.specs.RowWords.{row_start, key_words}

-- pieces of a text, joined in two ways
joined : (a r m t s w n : List ℕ) → (((a ++ (r ++ m)) ++ (t ++ s)) ++ w) ++ n ≡ a ++ (r ++ ((m ++ (t ++ (s ++ (w ++ [])))) ++ n))
joined a r m t s w n =
    append_assoc ((a ++ (r ++ m)) ++ (t ++ s)) w n ∙ append_assoc (a ++ (r ++ m)) (t ++ s) (w ++ n) ∙ append_assoc a (r ++ m) ((t ++ s) ++ (w ++ n))
    ∙ ap (λ (x : List ℕ). a ++ x)
    (append_assoc r m ((t ++ s) ++ (w ++ n)) ∙ ap (λ (x : List ℕ). r ++ (m ++ x)) (append_assoc t s (w ++ n))
    ∙ sym (ap (λ (x : List ℕ). r ++ x)
    (append_assoc m (t ++ (s ++ (w ++ []))) n
    ∙ ap (λ (x : List ℕ). m ++ x) (append_assoc t (s ++ (w ++ [])) n ∙ ap (λ (x : List ℕ). t ++ x) (append_assoc s (w ++ []) n ∙ ap (λ (x : List ℕ). s ++ x) (append_assoc w [] n))))))

pub row_put : (row : RowHead) (start key end a b c d : List ℕ) → start ≡ row_start row.key.mask.0 → key ≡ key_words row.key.attitude row.key.stage → end ≡ spaced (worth_word row.worth) ++ codes "\n"
    → b ≡ a ++ start → c ≡ b ++ key → d ≡ c ++ end → d ≡ a ++ line_text (row_line row)
unfolding line_text
row_put row start key end a b c d begins goes ends one two three =
    let w = spaced (worth_word row.worth) in
    three ∙ ap (λ (x : List ℕ). c ++ x) ends ∙ sym (append_assoc c w (codes "\n"))
    ∙ ap (λ (x : List ℕ). (x ++ w) ++ codes "\n") (two ∙ (λ i. (one ∙ ap (λ (x : List ℕ). a ++ x) begins) i ++ goes i))
    ∙ joined a (codes "row") (spaced (number row.key.mask.0)) (spaced (number row.key.attitude)) (spaced (number row.key.stage)) w (codes "\n")
