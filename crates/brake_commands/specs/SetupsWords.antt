-- The words that `setups` is run for.
use Rattle.std.specs.Prelude.{◌≡◌, ℕ, ◌≤◌, List, [], ◌∷◌, codes, All, IsTrue}
use Rattle.command_runner.specs.Kinds.{is_file_word}
use Rattle.brake_commands.specs.SetupsAnswer.{numbered_name}

-- the word is one of NAME.0 to NAME.15, the names under which certificates are stored
pub record IsStoredName (name word : List ℕ) : Type 0 where
  pub number : ℕ
  pub few : number ≤ 15
  pub is : word ≡ numbered_name name number

-- `setups` and five file words, none of the first four a name under which a certificate is stored
pub data AreSetupsWords : List (List ℕ) → Type 0 where
  five_files : (part tools machine setups cert : List ℕ)
      → All (λ word. IsTrue (is_file_word word)) (part ∷ tools ∷ machine ∷ setups ∷ cert ∷ [])
      → All (λ word. IsStoredName cert word → ⊥) (part ∷ tools ∷ machine ∷ setups ∷ [])
      → AreSetupsWords (codes "setups" ∷ part ∷ tools ∷ machine ∷ setups ∷ cert ∷ [])
