-- Texts that are read and stored in pieces.
use Rattle.std.proofs.Common.{◌≡◌, ◌⊎◌, inl, inr, ℕ, suc, ◌+◌, ◌*◌, ◌-◌, ◌<◌, ◌≤◌, List, [], ◌∷◌, ◌++◌, get_or, drop-cons, Bool, true, false, if◌then◌else◌, Option, Some, None, length, take, drop, min, refl, sym, ap, ◌∙◌, subst, append_assoc, append-nil, take-append-drop, arith}
use Rattle.std.specs.Prelude.{IfSome, ◌==◌, position, slice_range}
use Rattle.std.specs.Io.KnownBytes.{Appends, Consumes, IsAtEnd}
use Rattle.std.proofs.KnownBytes.{Appends-trans, Consumes-nil, Consumes-trans}
use Rattle.std.proofs.lemmas.List.{drop-append-le, drop-drop, length-append, length-drop, length-take-le, take-append-le, take-take, take_all, take_min}
use Rattle.std.proofs.lemmas.Grind.{common_steps}
use Rattle.std.proofs.lemmas.List.Edits.{length-between}
use Rattle.std.proofs.lemmas.List.Quantifiers.{position-Some}
use Rattle.std.proofs.lemmas.Slice.{between_is}
use Rattle.std.proofs.Math.Seq.{take-append-add, take-append_seam}
use borrow.Rule.Slice.PartMut.{put_mid, post_of}
use Rattle.brake_io.specs.Meanings.{AppendsPart}
use Rattle.brake_io.specs.declared.progress.Progress.{Progress}
use Rattle.brake_io.specs.declared.progress.Progress.TheVariants.{Reading, Ended, Failed, TooLong}
use Rattle.brake_io.specs.Pieces.{WindowState, IsOver, HasMore, GoesOn, IsWhole, IsTooLong, IsReadSoFar, reads_left}
use Rattle.brake_io.proofs.Fronts.{take-done}

-- how many bytes a part of a list has
pub ruleset spans = (length-between)

-- what is at hand once the first bytes are passed
pub passed : (xs : List ℕ) (start end count : ℕ) → slice_range xs (start + count) end ≡ drop count (slice_range xs start end)
passed xs start end count = between_is xs (start + count) end ∙ sym (drop-drop count start (take end xs)) ∙ ap (drop count) (sym (between_is xs start end))

-- what is at hand once a piece was read behind it, by way of a slice of all the bytes
pub read_behind : (xs ys after : List ℕ) (len start end k n : ℕ) → start ≤ end → end ≤ length xs → n ≤ length ys → end + n ≤ len
    → slice_range (take len (put_mid end k xs ys ++ after)) start (end + n) ≡ slice_range xs start end ++ take n ys
read_behind xs ys after len start end k n ordered within fits inside =
    let front = take end xs in
    let long : length front ≡ end = length-take-le end xs within in
    let behind = post_of end k xs ++ after in
    let sum : end + n ≡ length front + n = omega (arith, long) in
    let parts : put_mid end k xs ys ++ after ≡ front ++ (ys ++ behind) =
    append_assoc front (ys ++ post_of end k xs) after ∙ ap (λ l. front ++ l) (append_assoc ys (post_of end k xs) after) in
    let read : take (end + n) (take len (put_mid end k xs ys ++ after)) ≡ front ++ take n ys =
    take-take (end + n) len _ inside ∙ ap (take (end + n)) parts ∙ ap (λ j. take j (front ++ (ys ++ behind))) sum ∙ take-append-add front (ys ++ behind) n
    ∙ ap (λ l. front ++ l) (take-append-le n ys behind fits) in
    between_is _ start (end + n) ∙ ap (drop start) read ∙ drop-append-le start front (take n ys) (omega (arith, long, ordered))
    ∙ ap (λ l. l ++ take n ys) (sym (between_is xs start end))

-- what is done of a text and what is left of it, once a piece is done
pub gone_on : (whole done out piece left more : List ℕ) → done ++ left ≡ whole → out ≡ done ++ piece → left ≡ piece ++ more → out ++ more ≡ whole
gone_on whole done out piece left more so_far is split =
    ap (λ l. l ++ more) is ∙ append_assoc done piece more ∙ ap (λ l. done ++ l) (sym split) ∙ so_far

pub all_done : (whole out more : List ℕ) → out ++ more ≡ whole → more ≡ [] → out ≡ whole
all_done whole out more so_far none = sym (append-nil out) ∙ ap (λ l. out ++ l) (sym none) ∙ so_far

-- fewer turns are left, once a piece is made
pub fewer_turns : (is_more : Bool) (left more : List ℕ) → (is_more ≡ true → length more < length left) → (is_more ≡ false → more ≡ [])
    → length more + (if is_more then 1 else 0) < length left + 1
fewer_turns true left more nearer last = omega (arith, nearer refl)
fewer_turns false left more nearer last = let none : length more ≡ 0 = ap length (last refl) in omega (arith, none)

pub fewer_turns_of : (was_more is_more : Bool) (left more : List ℕ) → was_more ≡ true → (is_more ≡ true → length more < length left) → (is_more ≡ false → more ≡ [])
    → length more + (if is_more then 1 else 0) < length left + (if was_more then 1 else 0)
fewer_turns_of was_more is_more left more was nearer last = rw was (fewer_turns is_more left more nearer last)

-- a writer that took what is done, and then the next piece
pub written_on : (a b c : Option (List ℕ)) (done piece written : List ℕ) → Appends a b done → written ≡ piece → Appends b c written → Appends a c (done ++ piece)
written_on a b c done piece written first is next = Appends-trans a b c done piece first (rw is at next)

-- what is done of a text, the next piece of it, and what is behind
pub next_split : (whole done piece left more : List ℕ) → done ++ left ≡ whole → left ≡ piece ++ more → whole ≡ done ++ (piece ++ more)
next_split whole done piece left more so_far split = sym so_far ∙ ap (λ l. done ++ l) split

-- a writer that took what is done, and then the first of the next piece, took a front of the whole
pub part_of_next : (a b c : Option (List ℕ)) (whole done piece more written : List ℕ) → whole ≡ done ++ (piece ++ more) → Appends a b done → written ≡ piece → AppendsPart b c written → AppendsPart a c whole
part_of_next a b c whole done piece more written split first is next =
    let part : AppendsPart b c piece = rw is at next in
    let n = min part.0 (length piece) in
    let same : take part.0 piece ≡ take n (piece ++ more) = sym (take-append-le n piece more (omega arith) ∙ take_min part.0 piece) in
    let front : take (length done + n) whole ≡ done ++ take part.0 piece = take-done whole done (piece ++ more) n split ∙ ap (λ l. done ++ l) (sym same) in
    (length done + n, subst (Appends a c) (sym front) (Appends-trans a b c done (take part.0 piece) first part.1))

-- a writer that took what is done took a front of the whole
pub part_done : (a b : Option (List ℕ)) (whole done more : List ℕ) → whole ≡ done ++ more → Appends a b done → AppendsPart a b whole
part_done a b whole done more split first =
    let front : take (length done) whole ≡ done = ap (take (length done)) split ∙ take-append_seam done more in
    (length done, subst (Appends a b) (sym front) first)

-- a reader at its end gave all that it had
pub gave_all : (a b : Option (List ℕ)) (given : List ℕ) → Consumes a b given → IsAtEnd b → IfSome a (λ left. left ≡ given)
gave_all None b given gives end = tt
gave_all (Some x) None given gives end = absurd gives
gave_all (Some x) (Some y) given gives end = gives ∙ ap (λ l. given ++ l) end ∙ append-nil given

-- a reader that tells nothing told nothing before
pub told_nothing : (a b : Option (List ℕ)) (given : List ℕ) → Consumes a b given → b ≡ None → a ≡ None
told_nothing None b given gives none = refl
told_nothing (Some x) None given gives none = absurd gives
told_nothing (Some x) (Some y) given gives none = cc

-- more was read than the limit
pub too_long : (a b : Option (List ℕ)) (given : List ℕ) (limit before now : ℕ) → Consumes a b given → now ≡ before + length given → limit < now → IfSome a (λ left. limit < before + length left)
too_long None b given limit before now gives count past = tt
too_long (Some x) None given limit before now gives count past = absurd gives
too_long (Some x) (Some y) given limit before now gives count past =
    let few : length given ≤ length x = rw (gives, length-append) (omega arith) in
    omega (arith, count, past, few)

-- the front of what is left, and what is behind it
pub front_of_left : (xs : List ℕ) (at n : ℕ) → drop at xs ≡ take n (drop at xs) ++ drop (at + n) xs
front_of_left xs at n = sym (take-append-drop n (drop at xs)) ∙ ap (λ l. take n (drop at xs) ++ l) (drop-drop n at xs)

-- a window that didn't go on, and one that went on twice
pub goes_nowhere : (w : WindowState) → GoesOn w w
goes_nowhere w = record { piece = []; unread = sym (append-nil w.unread); taken = omega arith; limit = refl; left = Consumes-nil w.left }

pub goes_further : (a b c : WindowState) → GoesOn a b → GoesOn b c → GoesOn a c
goes_further a b c first next = record {
  piece = first.piece ++ next.piece;
  unread = next.unread ∙ ap (λ l. l ++ next.piece) first.unread ∙ append_assoc a.unread first.piece next.piece;
  taken = rw length-append (omega (arith, first.taken, next.taken));
  limit = next.limit ∙ first.limit;
  left = Consumes-trans a.left b.left c.left first.piece next.piece first.left next.left;
}

-- the first line feed, and a byte behind it
pub line_at : (xs : List ℕ) (i : ℕ) → position (λ byte. byte == 10) xs ≡ Some i → i + 1 < length xs
    → (line : List ℕ) × (next : ℕ) × (behind : List ℕ) × (xs ≡ line ++ 10 ∷ next ∷ behind)
line_at xs i found more =
    let at = position-Some (λ byte. byte == 10) xs i 0 found in
    let feed : get_or xs i 0 ≡ 10 = let is = at.1 in grind (arith, common_steps) in
    let split : drop i xs ≡ 10 ∷ get_or xs (suc i) 0 ∷ drop (suc (suc i)) xs =
    drop-cons xs i 0 at.0 ∙ ap (λ (byte : ℕ). byte ∷ drop (suc i) xs) feed ∙ ap (λ (l : List ℕ). 10 ∷ l) (drop-cons xs (suc i) 0 (omega (arith, more))) in
    (take i xs, get_or xs (suc i) 0, drop (suc (suc i)) xs, sym (take-append-drop i xs) ∙ ap (λ l. take i xs ++ l) split)

-- the same where it is found from a place on
pub line_behind : (xs : List ℕ) (from i : ℕ) → position (λ byte. byte == 10) (take (length xs - from) (drop from xs)) ≡ Some i → i + 1 < length (take (length xs - from) (drop from xs))
    → (line : List ℕ) × (next : ℕ) × (behind : List ℕ) × (xs ≡ line ++ 10 ∷ next ∷ behind)
line_behind xs from i found more =
    let tail : take (length xs - from) (drop from xs) ≡ drop from xs = take_all (length xs - from) (drop from xs) (rw length-drop (omega arith)) in
    let (line, next, behind, is) = line_at (take (length xs - from) (drop from xs)) i found more in (
      take from xs ++ line,
      next,
      behind,
      sym (take-append-drop from xs) ∙ ap (λ l. take from xs ++ l) (sym tail ∙ is) ∙ sym (append_assoc (take from xs) line (10 ∷ next ∷ behind)),
    )

-- a window that has read on, whatever was passed of it
pub record ReadsOn (before now : WindowState) : Type 0 where
  pub last : List ℕ
  pub taken : now.taken ≡ before.taken + length last
  pub limit : now.limit ≡ before.limit
  pub left : Consumes before.left now.left last
  pub over : IsOver before → (last ≡ []) × (now.progress ≡ before.progress)

pub reads_nothing : (w : WindowState) → ReadsOn w w
reads_nothing w = record { last = []; taken = omega arith; limit = refl; left = Consumes-nil w.left; over = λ over. (refl, refl) }

pub reads_more : (before now passed next : WindowState) → now.progress ≡ Reading → ReadsOn before now → passed ≡ record now { unread = [] } → GoesOn passed next → ReadsOn before next
reads_more before now passed next reading so_far same goes =
    let on : GoesOn (record now { unread = [] }) next = rw same at goes in
    record {
      last = so_far.last ++ on.piece;
      taken = rw length-append (omega (arith, so_far.taken, on.taken));
      limit = on.limit ∙ so_far.limit;
      left = Consumes-trans before.left now.left next.left so_far.last on.piece so_far.left on.left;
      over = λ over. absurd (over (sym (so_far.over over).1 ∙ reading));
    }

-- the window has gone on, and stands where it stood or has fewer reads to come
pub record IsNearer (before now : WindowState) : Type 0 where
  pub goes : GoesOn before now
  pub nearer : (now ≡ before) ⊎ (reads_left now < reads_left before)

pub stays : (w : WindowState) → IsNearer w w
stays w = record { goes = goes_nowhere w; nearer = inl refl }

pub has_read : (a b c : WindowState) → IsNearer a b → GoesOn b c → reads_left c < reads_left b → IsNearer a c
has_read a b c first next fewer = record {
  goes = goes_further a b c first.goes next;
  nearer = inr (elim first.nearer [
    | inl same ↦ subst (λ (w : WindowState). reads_left c < reads_left w) same fewer
    | inr nearer ↦ omega (arith, fewer, nearer)
  ]);
}

-- a window that isn't over and has more at hand, or now is over, is nearer
pub nearer_by : (a b : WindowState) (count : ℕ) → count ≡ 2 * length a.unread + 1 → IsNearer a b → (count ≤ length b.unread) ⊎ IsOver b → (IsOver a → ⊥) → reads_left b < reads_left a
nearer_by a b count twice is enough more = elim is.nearer [
  | inl same ↦ absurd (elim enough [
    | inl long ↦ (let at : length b.unread ≡ length a.unread = ap (λ (w : WindowState). length w.unread) same in omega (arith, long, at, twice))
    | inr over ↦ more (subst IsOver same over)
  ])
  | inr nearer ↦ nearer
]

pub has_more : (a b : WindowState) (count : ℕ) → count ≡ 2 * length a.unread + 1 → (count ≤ length b.unread) ⊎ IsOver b → HasMore a b
has_more a b count twice enough = elim enough [
  | inl long ↦ inl (omega (arith, long, twice))
  | inr over ↦ inr over
]

pub nearer_end : (now passed next : WindowState) → passed ≡ record now { unread = [] } → reads_left next < reads_left passed → reads_left next < reads_left now
nearer_end now passed next same nearer = rw same at nearer

pub whole_at_end : (before now : WindowState) (progress : Progress) → progress ≡ Ended → IsReadSoFar progress now.taken now.limit now.left → ReadsOn before now → IsWhole before
whole_at_end before now progress is known so_far =
    let ended : IsReadSoFar Ended now.taken now.limit now.left = rw is at known in
    record {
      last = so_far.last;
      is_left = gave_all before.left now.left so_far.last so_far.left ended.1;
      within = omega (arith, so_far.taken, so_far.limit, ended.0);
      over = λ over. (so_far.over over).0;
    }

pub untold_at_failure : (before now : WindowState) (progress : Progress) → progress ≡ Failed → IsReadSoFar progress now.taken now.limit now.left → ReadsOn before now → before.left ≡ None
untold_at_failure before now progress is known so_far =
    let failed : IsReadSoFar Failed now.taken now.limit now.left = rw is at known in
    told_nothing before.left now.left so_far.last so_far.left failed

pub longer_at_last : (before now : WindowState) (progress : Progress) → progress ≡ TooLong → IsReadSoFar progress now.taken now.limit now.left → ReadsOn before now → IsTooLong before
longer_at_last before now progress is known so_far =
    let past : IsReadSoFar TooLong now.taken now.limit now.left = rw is at known in
    too_long before.left now.left so_far.last before.limit before.taken now.taken so_far.left so_far.taken (omega (arith, so_far.limit, past))
