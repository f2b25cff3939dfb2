-- Costs, gangs and depths are numbers that are kept in another form.
use Rattle.std.proofs.Common.{◌≡◌, ℕ, ◌==◌, ◌≤◌, ◌≤ℤ◌, ℤ, pos, Bool, true, false, Some, None, refl, arith}
use Rattle.std.specs.Prelude.{if◌then◌else◌, int_le, unsigned_abs}
use Rattle.std.specs.Ordering.{int_eq}
use Rattle.std.proofs.lemmas.Bool.Decides.{Decides-int_eq}
use Rattle.std.proofs.lemmas.Grind.{common_steps}
use Rattle.std.proofs.lemmas.Int.{ints}
use Rattle.toml_fields.specs.Ranges.{is_within}
use Rattle.toml_fields.proofs.Decided.{at_most_decided, within_decided}
use Rattle.machine_file.specs.declared.machine.Costs.{Costs}
use Rattle.cert_words.specs.LineWords.{◌>>=◌}
use Rattle.cert_words.specs.JobWords.{natural, naturals, costs_of, gang_of, fine_of}
use Rattle.cert_lines.specs.Lines.{cost_line}
use Rattle.cert_lines.specs.JobText.{costs_line, gang_number}
use Rattle.cert_lines.proofs.Each.{Each, each_then, each_if}

natural_is : (z : ℤ) → Each (λ n. z ≡ pos n) (natural z)
natural_is z = each_if (λ n. z ≡ pos n) (int_le (pos 0) z) (Some (unsigned_abs z)) None (λ t. omega (arith, ints, (at_most_decided (pos 0) z).0 t)) (λ f. tt)

naturals_are : (pair : ℤ × ℤ) → Each (λ (n : ℕ × ℕ). (pair.0 ≡ pos n.0) × (pair.1 ≡ pos n.1)) (naturals pair)
unfolding naturals
naturals_are pair =
    let P : ℕ × ℕ → Type 0 = λ n. (pair.0 ≡ pos n.0) × (pair.1 ≡ pos n.1) in
    each_then (λ n. pair.0 ≡ pos n) P (natural pair.0) (λ first. natural pair.1 >>= λ second. Some (first, second)) (natural_is pair.0)
    (λ first one. each_then (λ n. pair.1 ≡ pos n) P (natural pair.1) (λ second. Some (first, second)) (natural_is pair.1) (λ second two. (one, two)))

pub costs_are : (a b c d e f : ℤ) → Each (λ costs. cost_line a b c d e f ≡ costs_line costs) (costs_of ((a, b), ((c, d), (e, f))))
unfolding costs_of
costs_are a b c d e f =
    let P : Costs → Type 0 = λ costs. cost_line a b c d e f ≡ costs_line costs in
    let N : ℤ → ℤ → ℕ × ℕ → Type 0 = λ x y n. (x ≡ pos n.0) × (y ≡ pos n.1) in
    let costs : ℕ × ℕ → ℕ × ℕ → ℕ × ℕ → Costs = λ s h r. record { stroke = s.0; quarter = s.1; half = h.0; flip = h.1; roll = r.0; stage = r.1 } in
    each_then (N a b) P (naturals (a, b)) (λ s. naturals (c, d) >>= λ h. naturals (e, f) >>= λ r. Some (costs s h r)) (naturals_are (a, b))
    (λ s one. each_then (N c d) P (naturals (c, d)) (λ h. naturals (e, f) >>= λ r. Some (costs s h r)) (naturals_are (c, d))
    (λ h two. each_then (N e f) P (naturals (e, f)) (λ r. Some (costs s h r)) (naturals_are (e, f))
    (λ r three i. cost_line (one.0 i) (one.1 i) (two.0 i) (two.1 i) (three.0 i) (three.1 i))))

pub gang_is : (n : ℤ) → Each (λ gang. n ≡ gang_number gang) (gang_of n)
gang_is n =
    let Is : Bool → Type 0 = λ gang. n ≡ gang_number gang in
    each_if Is (int_eq n (pos 0)) (Some false) (if int_eq n (pos 1) then Some true else None) (λ t. (Decides-int_eq n (pos 0)).0 t)
    (λ f. each_if Is (int_eq n (pos 1)) (Some true) None (λ t. (Decides-int_eq n (pos 1)).0 t) (λ f. tt))

not_zero : (m : ℕ) → 1 ≤ m → (m == 0) ≡ false
not_zero m some = grind (arith, common_steps)

pub fine_is : (n : ℤ) → Each (λ depth. ((depth == 0) ≡ false) × (n ≡ pos depth)) (fine_of n)
fine_is n =
    each_if (λ depth. ((depth == 0) ≡ false) × (n ≡ pos depth)) (is_within (pos 1) (pos 12) n) (Some (unsigned_abs n)) None
    (λ t.
    let low : pos 1 ≤ℤ n = ((within_decided (pos 1) (pos 12) n).0 t).bottom in
    (not_zero (unsigned_abs n) (omega (arith, ints, low)), omega (arith, ints, low)))
    (λ f. tt)

-- and the other way round
natural_back : (n : ℕ) → natural (pos n) ≡ Some n
natural_back n = let le : int_le (pos 0) (pos n) ≡ true = grind (arith, ints, common_steps) in rw le refl

pub gang_back : (gang : Bool) → gang_of (gang_number gang) ≡ Some gang
gang_back true = refl
gang_back false = refl

pub costs_back : (c : Costs) → costs_of ((pos c.stroke, pos c.quarter), ((pos c.half, pos c.flip), (pos c.roll, pos c.stage))) ≡ Some c
unfolding costs_of naturals
costs_back c = rw (natural_back c.stroke, natural_back c.quarter, natural_back c.half, natural_back c.flip, natural_back c.roll, natural_back c.stage) refl
