-- Readers of words: what is read is exactly what is written, and nothing else is read.
use Rattle.std.proofs.Common.{◌≡◌, ℕ, ◌<◌, ◌≤◌, true, ◌&&◌, nat_le, nat_lt, List, [], ◌∷◌, ◌++◌, Option, Some, None, refl, sym, ap, subst, ◌∙◌, append_assoc, ltb-true, arith}
use Rattle.std.specs.Prelude.{if◌then◌else◌}
use Rattle.std.proofs.lemmas.Bool.{and_parts}
use Rattle.std.proofs.lemmas.Grind.{common_steps, flat_map-append}
use Rattle.std.proofs.lemmas.List.{append-nil}
use Rattle.brake_text.specs.Numbers.{number_of}
use Rattle.cert_words.specs.LineWords.{◌>>=◌, at_end, both_at, as_at, alone, then_in, word_at, count_at, kind_at}
use Rattle.cert_lines.specs.Lines.{CertLine, number, spaced, words_of}
use Rattle.cert_lines.proofs.Each.{Each, Any, each_then, each_weaker, each_if, each_end}
use Rattle.cert_lines.proofs.WordsRead.{spelled, Ends, IsShort, IsPlain, count_read, kind_read, number_plain}
use Rattle.cert_lines.proofs.TextLines.{ArePlain, line_bytes}
use Rattle.cert_lines.proofs.Spelling.{word_begins, respelled, number_is}

-- from the front exactly the words of what meets a rule are read
pub record ReadsWords {A : Type 0} (Fits : A → Type 0) (words : A → List (List ℕ)) (read : List ℕ → Option (A × List ℕ)) : Type 0 where
  pub back : (x : A) (rest : List ℕ) → Fits x → Ends rest → read (spelled (words x) ++ rest) ≡ Some (x, rest)
  pub only : (text : List ℕ) → Each (λ (x : A × List ℕ). Fits x.0 × (text ≡ spelled (words x.0) ++ x.1)) (read text)
  pub plain : (x : A) → Fits x → ArePlain (words x)

-- exactly the words of what meets a rule are read, behind which nothing is
pub record ReadsAll {A : Type 0} (Fits : A → Type 0) (words : A → List (List ℕ)) (read : List ℕ → Option A) : Type 0 where
  pub back : (x : A) → Fits x → read (spelled (words x)) ≡ Some x
  pub only : (text : List ℕ) → Each (λ (x : A). Fits x × (text ≡ spelled (words x))) (read text)
  pub plain : (x : A) → Fits x → ArePlain (words x)

-- exactly the texts of lines that meet a rule are read
pub record ReadsLines (Fits : CertLine → Type 0) (read : List ℕ → Option CertLine) : Type 0 where
  pub back : (line : CertLine) → Fits line → read (line_bytes line) ≡ Some line
  pub only : (text : List ℕ) → Each (λ (line : CertLine). Fits line × (text ≡ line_bytes line)) (read text)
  pub plain : (line : CertLine) → Fits line → ArePlain (words_of line)

plain_more : (xs ys : List (List ℕ)) → ArePlain xs → ArePlain ys → ArePlain (xs ++ ys)
plain_more [] ys one two = two
plain_more (x ∷ xs) ys one two = (one.0, plain_more xs ys one.1 two)

ends_behind : (words : List (List ℕ)) (rest : List ℕ) → Ends rest → Ends (spelled words ++ rest)
ends_behind [] rest ends = ends
ends_behind (word ∷ words) rest ends = refl

pub ends_words : (words : List (List ℕ)) → Ends (spelled words)
ends_words [] = tt
ends_words (word ∷ words) = refl

cut : (first second : List (List ℕ)) (rest : List ℕ) → spelled (first ++ second) ++ rest ≡ spelled first ++ (spelled second ++ rest)
cut first second rest = ap (λ (t : List ℕ). t ++ rest) (flat_map-append spaced first second) ∙ append_assoc (spelled first) (spelled second) rest

-- one thing, and another behind it
pub both_reads : {A B : Type 0} {P : A → Type 0} {Q : B → Type 0} {v : A → List (List ℕ)} {w : B → List (List ℕ)} {f : List ℕ → Option (A × List ℕ)} {g : List ℕ → Option (B × List ℕ)} → ReadsWords P v f → ReadsWords Q w g
    → ReadsWords (λ (x : A × B). P x.0 × Q x.1) (λ (x : A × B). v x.0 ++ w x.1) (both_at f g)
both_reads {A} {B} {P} {Q} {v} {w} {f} {g} one two = record {
  back = λ x rest fits ends.
      ap (λ (t : List ℕ). both_at f g t) (cut (v x.0) (w x.1) rest)
      ∙ ap (λ (o : Option (A × List ℕ)). o >>= λ a. g a.1 >>= λ b. Some ((a.0, b.0), b.1)) (one.back x.0 (spelled (w x.1) ++ rest) fits.0 (ends_behind (w x.1) rest ends))
      ∙ ap (λ (o : Option (B × List ℕ)). o >>= λ b. Some ((x.0, b.0), b.1)) (two.back x.1 rest fits.1 ends);
  only = λ text.
      each_then (λ (a : A × List ℕ). P a.0 × (text ≡ spelled (v a.0) ++ a.1)) (Both text) (f text) (λ a. g a.1 >>= λ b. Some ((a.0, b.0), b.1)) (one.only text)
      (λ a is. each_then (λ (b : B × List ℕ). Q b.0 × (a.1 ≡ spelled (w b.0) ++ b.1)) (Both text) (g a.1) (λ b. Some ((a.0, b.0), b.1)) (two.only a.1)
      (λ b of. ((is.0, of.0), is.1 ∙ ap (λ (t : List ℕ). spelled (v a.0) ++ t) of.1 ∙ sym (cut (v a.0) (w b.0) b.1))));
  plain = λ x fits. plain_more (v x.0) (w x.1) (one.plain x.0 fits.0) (two.plain x.1 fits.1);
}
  where
    Both : List ℕ → (A × B) × List ℕ → Type 0
    Both text x = (P x.0.0 × Q x.0.1) × (text ≡ spelled (v x.0.0 ++ w x.0.1) ++ x.1)

-- the same as something else
pub as_reads : {A B : Type 0} {P : A → Type 0} {v : A → List (List ℕ)} {f : List ℕ → Option (A × List ℕ)} (Q : B → Type 0) (w : B → List (List ℕ)) (to : A → B) (from : B → A) → ((b : B) → to (from b) ≡ b)
    → ((b : B) → Q b → P (from b)) → ((a : A) → P a → Q (to a)) → ((b : B) → w b ≡ v (from b)) → ((a : A) → w (to a) ≡ v a) → ReadsWords P v f → ReadsWords Q w (as_at to f)
as_reads {A} {B} {P} {v} {f} Q w to from same fits_from fits_to words_from words_to one = record {
  back = λ b rest fits ends.
      ap (λ (ws : List (List ℕ)). as_at to f (spelled ws ++ rest)) (words_from b)
      ∙ ap (λ (o : Option (A × List ℕ)). o >>= λ x. Some (to x.0, x.1)) (one.back (from b) rest (fits_from b fits) ends)
      ∙ ap (λ (x : B). Some (x, rest)) (same b);
  only = λ text.
      each_then (λ (a : A × List ℕ). P a.0 × (text ≡ spelled (v a.0) ++ a.1)) (λ (b : B × List ℕ). Q b.0 × (text ≡ spelled (w b.0) ++ b.1)) (f text) (λ a. Some (to a.0, a.1)) (one.only text)
      (λ a is. (fits_to a.0 is.0, is.1 ∙ ap (λ (ws : List (List ℕ)). spelled ws ++ a.1) (sym (words_to a.0))));
  plain = λ b fits. subst ArePlain (sym (words_from b)) (one.plain (from b) (fits_from b fits));
}

-- what is read, of which nothing is behind
pub alone_reads : {A : Type 0} {P : A → Type 0} {v : A → List (List ℕ)} {f : List ℕ → Option (A × List ℕ)} → ReadsWords P v f → ReadsAll P v (alone f)
alone_reads {A} {P} {v} {f} one = record {
  back = λ x fits. ap (λ (t : List ℕ). alone f t) (sym (append-nil (spelled (v x)))) ∙ ap (λ (o : Option (A × List ℕ)). o >>= λ a. at_end a.0 a.1) (one.back x [] fits tt);
  only = λ text.
      let Is : A → Type 0 = λ x. P x × (text ≡ spelled (v x)) in
      each_then (λ (a : A × List ℕ). P a.0 × (text ≡ spelled (v a.0) ++ a.1)) Is (f text) (λ a. at_end a.0 a.1) (one.only text)
      (λ a is. each_end Is a.0 a.1 (λ none. (is.0, is.1 ∙ ap (λ (t : List ℕ). spelled (v a.0) ++ t) none ∙ append-nil (spelled (v a.0)))));
  plain = one.plain;
}

-- one thing, and behind it another that goes on to the end
pub then_reads : {A B : Type 0} {P : A → Type 0} {Q : B → Type 0} {v : A → List (List ℕ)} {w : B → List (List ℕ)} {f : List ℕ → Option (A × List ℕ)} {g : List ℕ → Option B} → ReadsWords P v f → ReadsAll Q w g
    → ReadsAll (λ (x : A × B). P x.0 × Q x.1) (λ (x : A × B). v x.0 ++ w x.1) (then_in f g)
then_reads {A} {B} {P} {Q} {v} {w} {f} {g} one two = record {
  back = λ x fits.
      ap (λ (t : List ℕ). then_in f g t) (flat_map-append spaced (v x.0) (w x.1))
      ∙ ap (λ (o : Option (A × List ℕ)). o >>= λ a. g a.1 >>= λ b. Some (a.0, b)) (one.back x.0 (spelled (w x.1)) fits.0 (ends_words (w x.1)))
      ∙ ap (λ (o : Option B). o >>= λ b. Some (x.0, b)) (two.back x.1 fits.1);
  only = λ text.
      each_then (λ (a : A × List ℕ). P a.0 × (text ≡ spelled (v a.0) ++ a.1)) (Both text) (f text) (λ a. g a.1 >>= λ b. Some (a.0, b)) (one.only text)
      (λ a is. each_then (λ (b : B). Q b × (a.1 ≡ spelled (w b))) (Both text) (g a.1) (λ b. Some (a.0, b)) (two.only a.1)
      (λ b of. ((is.0, of.0), is.1 ∙ ap (λ (t : List ℕ). spelled (v a.0) ++ t) of.1 ∙ sym (flat_map-append spaced (v a.0) (w b)))));
  plain = λ x fits. plain_more (v x.0) (w x.1) (one.plain x.0 fits.0) (two.plain x.1 fits.1);
}
  where
    Both : List ℕ → A × B → Type 0
    Both text x = (P x.0 × Q x.1) × (text ≡ spelled (v x.0 ++ w x.1))

-- what is read, made into something else, which another function undoes
pub made_reads : {A B : Type 0} {P : A → Type 0} {v : A → List (List ℕ)} {f : List ℕ → Option A} (make : A → Option B) (from : B → A) → ((b : B) → make (from b) ≡ Some b) → ((a : A) → Each (λ b. a ≡ from b) (make a)) → ReadsAll P v f
    → ReadsAll (λ b. P (from b)) (λ b. v (from b)) (λ text. f text >>= make)
made_reads {A} {B} {P} {v} {f} make from same undone one = record {
  back = λ b fits. ap (λ (o : Option A). o >>= make) (one.back (from b) fits) ∙ same b;
  only = λ text.
      let Is : B → Type 0 = λ b. P (from b) × (text ≡ spelled (v (from b))) in
      each_then (λ (a : A). P a × (text ≡ spelled (v a))) Is (f text) make (one.only text)
      (λ a is. each_weaker (λ b. a ≡ from b) Is (make a) (λ b e. subst (λ (x : A). P x × (text ≡ spelled (v x))) e is) (undone a));
  plain = λ b fits. one.plain (from b) fits;
}

-- a word by its spelling
one_word : (word rest : List ℕ) → spelled (word ∷ []) ++ rest ≡ spaced word ++ rest
one_word word rest = ap (λ (t : List ℕ). t ++ rest) (append-nil (spaced word))

pub kind_reads : {A : Type 0} (P : A → Type 0) (word : A → List ℕ) (of : List ℕ → Option A) → ((x : A) → P x → of (word x) ≡ Some x) → ((w : List ℕ) → Each (λ (x : A). P x × (w ≡ word x)) (of w)) → ((x : A) → P x → IsPlain (word x))
    → ReadsWords P (λ x. word x ∷ []) (kind_at of)
unfolding kind_at
kind_reads {A} P word of back only plain = record {
  back = λ x rest fits ends. ap (λ (t : List ℕ). kind_at of t) (one_word (word x) rest) ∙ kind_read of (word x) rest x (back x fits) (plain x fits) ends;
  only = λ text.
      let Is : A × List ℕ → Type 0 = λ x. P x.0 × (text ≡ spelled (word x.0 ∷ []) ++ x.1) in
      each_then (λ (w : List ℕ × List ℕ). text ≡ spelled (w.0 ∷ []) ++ w.1) Is (word_at text) (λ w. of w.0 >>= λ x. Some (x, w.1)) (word_begins text)
      (λ w is. each_then (λ (x : A). P x × (w.0 ≡ word x)) Is (of w.0) (λ x. Some (x, w.1)) (only w.0) (λ x same. (same.0, respelled text w.0 w.1 (word x) is same.1)));
  plain = λ x fits. (plain x fits, tt);
}

-- a word of any value of its kind
pub any_kind : {A : Type 0} (word : A → List ℕ) (of : List ℕ → Option A) → ((x : A) → of (word x) ≡ Some x) → ((w : List ℕ) → Each (λ x. w ≡ word x) (of w)) → ((x : A) → IsPlain (word x)) → ReadsWords Any (λ x. word x ∷ []) (kind_at of)
any_kind word of back is plain = kind_reads Any word of (λ x any. back x) (λ w. each_weaker (λ x. w ≡ word x) (λ x. Any x × (w ≡ word x)) (of w) (λ x e. (tt, e)) (is w)) (λ x any. plain x)

-- a number in a range, of at most 18 digits
pub record IsCount (least end n : ℕ) : Type 0 where
  pub low : least ≤ n
  pub high : n < end
  pub short : IsShort n

pub count_reads : (low end : ℕ) → ReadsWords (IsCount low end) (λ n. number n ∷ []) (count_at low end)
unfolding count_at
count_reads low end = record {
  back = λ n rest fits ends. ap (λ (t : List ℕ). count_at low end t) (one_word (number n) rest) ∙ count_read low end n rest fits.low fits.high fits.short ends;
  only = λ text.
      let Is : ℕ × List ℕ → Type 0 = λ x. IsCount low end x.0 × (text ≡ spelled (number x.0 ∷ []) ++ x.1) in
      each_then (λ (w : List ℕ × List ℕ). text ≡ spelled (w.0 ∷ []) ++ w.1) Is (word_at text) (λ w. number_of w.0 >>= λ n. if nat_le low n && nat_lt n end then Some (n, w.1) else None) (word_begins text)
      (λ w is. each_then (λ (n : ℕ). IsShort n × (w.0 ≡ number n)) Is (number_of w.0) (λ n. if nat_le low n && nat_lt n end then Some (n, w.1) else None) (number_is w.0)
      (λ n same. each_if Is (nat_le low n && nat_lt n end) (Some (n, w.1)) None (λ test. (in_range n same.0 test, respelled text w.0 w.1 (number n) is same.1)) (λ test. tt)));
  plain = λ n fits. (number_plain n fits.short, tt);
}
  where
    in_range : (n : ℕ) → IsShort n → (nat_le low n && nat_lt n end) ≡ true → IsCount low end n
    in_range n short test = let first : low ≤ n = grind (arith, common_steps) in record { low = first; high = ltb-true n end ((and_parts (nat_le low n) (nat_lt n end) test).1); short = short }
