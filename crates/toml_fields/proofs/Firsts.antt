-- The least number below a bound for which a test holds.
use Rattle.std.proofs.Common.{◌≡◌, ℕ, zero, suc, ◌+◌, ◌<◌, Bool, true, false, cond, Some, None, refl, add-zero, zero-add, arith}
use Rattle.std.specs.Prelude.{find}
use Rattle.std.specs.List.{range_with_len}
use Rattle.toml_fields.specs.Results.{first_below}

found_from : (test : ℕ → Bool) (a n i : ℕ) → find test (range_with_len a n) ≡ Some i → i < a + n
found_from test a zero i found = absurd (cc)
found_from test a (suc n) i found = by_test (test a) found (found_from test (a + 1) n i)
  where
    by_test : (b : Bool) → cond b (Some a) (find test (range_with_len (a + 1) n)) ≡ Some i → (find test (range_with_len (a + 1) n) ≡ Some i → i < (a + 1) + n) → i < a + suc n
    by_test true here later = let same : a ≡ i = cc in omega arith
    by_test false here later = let below = later here in omega arith

none_from : (test : ℕ → Bool) (a n : ℕ) → find test (range_with_len a n) ≡ None → (k : ℕ) → k < n → test (a + k) ≡ false
none_from test a zero none k within = absurd (omega arith)
none_from test a (suc n) none zero within = rw add-zero (first (test a) none)
  where
    first : (b : Bool) → cond b (Some a) (find test (range_with_len (a + 1) n)) ≡ None → b ≡ false
    first true here = absurd (cc)
    first false here = refl
none_from test a (suc n) none (suc k) within =
    let later : test ((a + 1) + k) ≡ false = none_from test (a + 1) n (rest (test a) none) k (omega arith) in
    let same : (a + 1) + k ≡ a + suc k = omega arith in
    rw same at later
  where
    rest : (b : Bool) → cond b (Some a) (find test (range_with_len (a + 1) n)) ≡ None → find test (range_with_len (a + 1) n) ≡ None
    rest true here = absurd (cc)
    rest false here = here

-- it is below the bound
pub found_below : (test : ℕ → Bool) (bound i : ℕ) → first_below test bound ≡ Some i → i < bound
found_below test bound i found = let below : i < 0 + bound = found_from test 0 bound i found in omega arith

-- where there is none, the test fails for all
pub none_below : (test : ℕ → Bool) (bound : ℕ) → first_below test bound ≡ None → (k : ℕ) → k < bound → test k ≡ false
none_below test bound none k within = let fails : test (0 + k) ≡ false = none_from test 0 bound none k within in rw zero-add at fails
