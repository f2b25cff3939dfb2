-- A choice for wants has one for each end of them.
use Rattle.std.proofs.Common.{◌≡◌, ℕ, zero, suc, ◌-◌, ◌≤◌, ℤ, Bool, true, false, List, [], ◌∷◌, length, take, drop, length-drop, sym, subst, arith}
use Rattle.std.specs.Prelude.{None}
use Rattle.std.proofs.lemmas.List.{take_all}
use Rattle.std.proofs.lemmas.List.Elements.{All-drop}
use Rattle.tool_library.specs.Tools.{ToolsData}
use Rattle.piece_pick.specs.declared.want.Want.{Want}
use Rattle.piece_pick.specs.declared.stock.Tool.{Tool}
use Rattle.piece_pick.specs.Stock.{taken}
use Rattle.piece_pick.specs.Choice.{AreMadeUp, IsWant, IsPick}
use Rattle.piece_pick.specs.Search.{IsAsked, Begins, HasNone, Finds}
use Rattle.piece_pick.proofs.Steps.{whole_none}

pub none_found : (tools : ToolsData) (wants : List Want) (before now : List (List ℤ)) (found : Bool) → before ≡ []
    → Finds tools wants (Begins before) before found now → found ≡ false → IsPick tools wants None
none_found tools wants before now false empty finds is_false =
    whole_none tools wants (subst (λ (lists : List (List ℤ)). HasNone tools wants (Begins lists)) empty finds.0)
none_found tools wants before now true empty finds is_false = absurd (let c = is_false in cc)

pub made_drop : (n : ℕ) (wants : List Want) (lists : List (List ℤ)) → AreMadeUp wants lists → AreMadeUp (drop n wants) (drop n lists)
made_drop zero wants lists made = made
made_drop (suc n) [] [] made = tt
made_drop (suc n) [] (pieces ∷ lists) made = absurd made
made_drop (suc n) (want ∷ wants) [] made = absurd made
made_drop (suc n) (want ∷ wants) (pieces ∷ lists) made = made_drop n wants lists made.1

pub taken_drop : (tool : Tool) (p : ℤ) (n : ℕ) (wants : List Want) (lists : List (List ℤ))
    → taken tool p (drop n wants) (drop n lists) ≤ taken tool p wants lists
taken_drop tool p zero wants lists = omega arith
taken_drop tool p (suc n) [] [] = omega arith
taken_drop tool p (suc n) [] (pieces ∷ lists) = omega arith
taken_drop tool p (suc n) (want ∷ wants) [] = nothing (drop n wants)
  where
    nothing : (ws : List Want) → taken tool p ws [] ≤ 0
    nothing [] = omega arith
    nothing (w ∷ ws) = omega arith
taken_drop tool p (suc n) (want ∷ wants) (pieces ∷ lists) = let later = taken_drop tool p n wants lists in omega (arith, later)

pub end_is : (wants : List Want) (n : ℕ) → take (length wants - n) (drop n wants) ≡ drop n wants
end_is wants n = take_all (length wants - n) (drop n wants) (omega (arith, length-drop n wants))

pub end_asked : (tools : ToolsData) (wants : List Want) (n : ℕ) → IsAsked tools wants → IsAsked tools (take (length wants - n) (drop n wants))
end_asked tools wants n asked =
    subst (λ (ws : List Want). IsAsked tools ws) (sym (end_is wants n)) (record {
      tools_are = asked.tools_are;
      few = omega (arith, length-drop n wants, asked.few);
      wants_are = All-drop (IsWant tools) n wants asked.wants_are;
    })

pub end_none : (tools : ToolsData) (wants : List Want) (n : ℕ) → IsPick tools (take (length wants - n) (drop n wants)) None → IsPick tools wants None
end_none tools wants n none choice is =
    let end : IsPick tools (drop n wants) None = subst (λ (ws : List Want). IsPick tools ws None) (end_is wants n) none in
    end (drop n choice) (record {
      each = made_drop n wants choice is.each;
      stock = λ tool p. omega (arith, taken_drop tool p n wants choice, is.stock tool p);
    })
