-- What putting texts one after another comes to.
use Rattle.std.proofs.Common.{◌≡◌, ℕ, suc, ◌+◌, ◌<◌, min, List, [], ◌∷◌, ◌++◌, length, map, get_or, take, drop, Vec, Global, refl, sym, ap, subst, ◌∙◌, append_assoc, append-nil, drop-cons, arith}
use Rattle.std.specs.Vec.{vec_items}
use Rattle.std.specs.Io.KnownBytes.{Appends}
use Rattle.std.proofs.KnownBytes.{Appends-trans}
use Rattle.std.proofs.lemmas.List.{map-append, map_more, take-append-drop, take_min, take-append-le}
use Rattle.brake_io.specs.Meanings.{SinkState, Puts, PutsPart}
use Rattle.brake_io.proofs.Fronts.{take-done}
use Rattle.command_runner.specs.Answers.{concatenation}

concatenation-append : (xs ys : List (List ℕ)) → concatenation (xs ++ ys) ≡ concatenation xs ++ concatenation ys
concatenation-append [] ys = refl
concatenation-append (x ∷ xs) ys = ap (λ (l : List ℕ). x ++ l) (concatenation-append xs ys) ∙ sym (append_assoc x (concatenation xs) (concatenation ys))

-- one text more
pub put_more : (texts : List (Vec ℕ Global)) (i : ℕ) (one : Vec ℕ Global) (piece : List ℕ) (a b c : SinkState) → i < length texts → one ≡ get_or texts i one → piece ≡ one.items
    → Puts a b (concatenation (map vec_items (take i texts))) → Puts b c piece → Puts a c (concatenation (map vec_items (take (i + 1) texts)))
put_more texts i one piece a b c within here is first then =
    let next : concatenation (map vec_items (take (i + 1) texts)) ≡ concatenation (map vec_items (take i texts)) ++ piece =
    ap concatenation (map_more vec_items texts i one within)
    ∙ concatenation-append (map vec_items (take i texts)) (vec_items (get_or texts i one) ∷ [])
    ∙ ap (λ (l : List ℕ). concatenation (map vec_items (take i texts)) ++ l) (append-nil (vec_items (get_or texts i one)) ∙ sym (ap vec_items here) ∙ sym is) in
    rw next (Appends-trans a.written b.written c.written (concatenation (map vec_items (take i texts))) piece first then)

-- the texts around one of them
around : (texts : List (Vec ℕ Global)) (i : ℕ) (d : Vec ℕ Global) → i < length texts
    → concatenation (map vec_items texts) ≡ concatenation (map vec_items (take i texts)) ++ (vec_items (get_or texts i d) ++ concatenation (map vec_items (drop (suc i) texts)))
around texts i d within =
    ap (λ (l : List (Vec ℕ Global)). concatenation (map vec_items l)) (sym (take-append-drop i texts))
    ∙ ap concatenation (map-append vec_items (take i texts) (drop i texts))
    ∙ concatenation-append (map vec_items (take i texts)) (map vec_items (drop i texts))
    ∙ ap (λ (rest : List (Vec ℕ Global)). concatenation (map vec_items (take i texts)) ++ concatenation (map vec_items rest)) (drop-cons texts i d within)

-- the front of a piece is a front of it with more behind
front : (n : ℕ) (piece rest : List ℕ) → take (min n (length piece)) (piece ++ rest) ≡ take n piece
front n piece rest = take-append-le (min n (length piece)) piece rest (omega arith) ∙ take_min n piece

-- a text that is put in part, where those before it are put
pub put_up_to : (texts : List (Vec ℕ Global)) (i : ℕ) (one : Vec ℕ Global) (piece : List ℕ) (a b c : SinkState) → i < length texts → one ≡ get_or texts i one → piece ≡ one.items
    → Puts a b (concatenation (map vec_items (take i texts))) → PutsPart b c piece → PutsPart a c (concatenation (map vec_items texts))
put_up_to texts i one piece a b c within here is first (n, then) =
    let done = concatenation (map vec_items (take i texts)) in
    let here_is : vec_items (get_or texts i one) ≡ piece = sym (ap vec_items here) ∙ sym is in
    let rest = concatenation (map vec_items (drop (suc i) texts)) in
    let k = min n (length piece) in
    let whole : concatenation (map vec_items texts) ≡ done ++ (piece ++ rest) = around texts i one within ∙ ap (λ (l : List ℕ). done ++ (l ++ rest)) here_is in
    let front_is : take (length done + k) (concatenation (map vec_items texts)) ≡ done ++ take n piece = take-done (concatenation (map vec_items texts)) done (piece ++ rest) k whole ∙ ap (λ (l : List ℕ). done ++ l) (front n piece rest) in
    (length done + k, subst (Appends a.written c.written) (sym front_is) (Appends-trans a.written b.written c.written done (take n piece) first then))
