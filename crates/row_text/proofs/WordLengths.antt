-- How long the parts of a line are.
use Rattle.std.proofs.Common.{◌≡◌, ℕ, ◌+◌, ◌^◌, ◌<◌, ◌≤◌, List, [], ◌∷◌, ◌++◌, codes, length, ap, sym, ◌∙◌, subst, arith}
use Rattle.std.specs.List.{flat_map}
use Rattle.std.proofs.lemmas.Fmt.{length-decimal-le}
use Rattle.std.proofs.lemmas.List.{length-append}
use Rattle.brake_base.specs.declared.plane.Quarter.{Quarter}
use Rattle.brake_base.specs.declared.plane.Quarter.TheVariants.{Q1, Q2, Q3, Q4}
use Rattle.brake_base.specs.declared.stroke.Back.{Back}
use Rattle.brake_base.specs.declared.stroke.Back.TheVariants.{Parent, Child}
use Rattle.brake_base.specs.declared.stroke.Half.{Half}
use Rattle.brake_base.specs.declared.stroke.Half.TheVariants.{Back as BackHalf, Front as FrontHalf}
use Rattle.brake_base.specs.declared.stroke.Action.{Action}
use Rattle.brake_base.specs.declared.reason.Reason.{Reason}
use Rattle.brake_base.specs.declared.reason.Reason.TheVariants.{Cover, Rest, Frame, Upper, Nose, Lower, SelfHit, NoGauge, Load}
use Rattle.brake_base.specs.Reasons.{kind_of, quarter_number}
use Rattle.stage_lanes.specs.Codes.{IsCoded}
use Rattle.cert_lines.specs.Lines.{number, spaced, back_word, half_word, action_words, meeting_words, argument_words, reason_words, line_text, note_line}
use Rattle.row_text.specs.RowWords.{row_start, key_words}

number_length : (k n : ℕ) → 0 < k → n < 10 ^ k → n < 2 ^ 64 → length (number n) ≤ k
number_length k n some few small = length-decimal-le k n some few small

three_digits : (n : ℕ) → n < 1000 → length (number n) ≤ 3
three_digits n few = number_length 3 n (omega arith) (omega (arith, few)) (omega (arith, few))

-- one word more, behind its space
one_word : (word : List ℕ) (words : List (List ℕ)) → length (flat_map spaced (word ∷ words)) ≡ 1 + length word + length (flat_map spaced words)
one_word word words = let cut = length-append (spaced word) (flat_map spaced words) in omega (arith, cut)

pub row_start_short : (mask : ℕ) → mask < 2 ^ 16 → length (row_start mask) ≤ 32
row_start_short mask fits = let digits = number_length 5 mask (omega arith) (omega (arith, fits)) (omega (arith, fits)) in omega (arith, digits)

pub key_words_short : (attitude stage : ℕ) → attitude < 24 → stage < 6 → length (key_words attitude stage) ≤ 32
key_words_short attitude stage few small =
    let a = three_digits attitude (omega (arith, few)) in
    let s = three_digits stage (omega (arith, small)) in
    let cut = length-append (spaced (number attitude)) (spaced (number stage)) in
    omega (arith, a, s, cut)

back_length : (back : Back) → length (back_word back) ≤ 1
back_length Parent = omega arith
back_length Child = omega arith

half_length : (half : Half) → length (half_word half) ≤ 1
half_length BackHalf = omega arith
half_length FrontHalf = omega arith

quarter_few : (quarter : Quarter) → quarter_number quarter < 1000
quarter_few Q1 = omega arith
quarter_few Q2 = omega arith
quarter_few Q3 = omega arith
quarter_few Q4 = omega arith

kind_few : (reason : Reason) → kind_of reason < 1000
kind_few Cover = omega arith
kind_few (Rest half) = omega arith
kind_few (Frame box) = omega arith
kind_few (Upper box quarter index) = omega arith
kind_few (Nose box quarter stage) = omega arith
kind_few (Lower box quarter index) = omega arith
kind_few (SelfHit box quarter other) = omega arith
kind_few NoGauge = omega arith
kind_few Load = omega arith

meeting_length : (box : ℕ) (quarter : Quarter) (other : ℕ) → box < 25 → other < 64 → length (flat_map spaced (meeting_words box quarter other)) ≤ 12
meeting_length box quarter other few_box few_other =
    let a = three_digits box (omega (arith, few_box)) in
    let b = three_digits (quarter_number quarter) (quarter_few quarter) in
    let c = three_digits other (omega (arith, few_other)) in
    let first = one_word (number box) (number (quarter_number quarter) ∷ number other ∷ []) in
    let second = one_word (number (quarter_number quarter)) (number other ∷ []) in
    let third = one_word (number other) [] in
    omega (arith, a, b, c, first, second, third)

argument_length : (reason : Reason) → IsCoded reason → length (flat_map spaced (argument_words reason)) ≤ 12
argument_length Cover is = omega arith
argument_length (Rest half) is = let one = one_word (half_word half) [] in let short = half_length half in omega (arith, one, short)
argument_length (Frame box) is = let one = one_word (number box) [] in let b = is.body in let short = three_digits box (omega (arith, b)) in omega (arith, one, short)
argument_length (Upper box quarter index) is = meeting_length box quarter index is.body is.index
argument_length (Nose box quarter stage) is = meeting_length box quarter stage is.body is.index
argument_length (Lower box quarter index) is = meeting_length box quarter index is.body is.index
argument_length (SelfHit box quarter other) is = meeting_length box quarter other is.body is.index
argument_length NoGauge is = omega arith
argument_length Load is = omega arith

pub note_short : (action : Action) (reason : Reason) → action.bend < 256 → action.stage < 256 → IsCoded reason → length (line_text (note_line action reason)) ≤ 32
unfolding line_text
note_short action reason bend stage is =
    let b = three_digits action.bend (omega (arith, bend)) in
    let side = back_length action.back in
    let s = three_digits action.stage (omega (arith, stage)) in
    let kind = three_digits (kind_of reason) (kind_few reason) in
    let arguments = argument_length reason is in
    let words = flat_map spaced (action_words action ++ reason_words reason) in
    let front = length-append (120 ∷ []) (words ++ (10 ∷ [])) in
    let end = length-append words (10 ∷ []) in
    let first = one_word (number action.bend) (back_word action.back ∷ number action.stage ∷ number (kind_of reason) ∷ argument_words reason) in
    let second = one_word (back_word action.back) (number action.stage ∷ number (kind_of reason) ∷ argument_words reason) in
    let third = one_word (number action.stage) (number (kind_of reason) ∷ argument_words reason) in
    let fourth = one_word (number (kind_of reason)) (argument_words reason) in
    omega (arith, b, side, s, kind, arguments, front, end, first, second, third, fourth)

-- ---- what is put behind no byte
pub row_start_fits : (mask : ℕ) (a b c : List ℕ) → mask < 2 ^ 16 → a ≡ [] → b ≡ a ++ codes "row" → c ≡ b ++ spaced (number mask) → length c ≤ 32
row_start_fits mask a b c fits empty one two =
    let same : c ≡ row_start mask = two ∙ ap (λ (t : List ℕ). t ++ spaced (number mask)) (one ∙ ap (λ (t : List ℕ). t ++ codes "row") empty) in
    subst (λ (t : List ℕ). length t ≤ 32) (sym same) (row_start_short mask fits)

pub key_words_fit : (attitude stage : ℕ) (a b c : List ℕ) → attitude < 24 → stage < 6 → a ≡ [] → b ≡ a ++ spaced (number attitude) → c ≡ b ++ spaced (number stage) → length c ≤ 32
key_words_fit attitude stage a b c few small empty one two =
    let same : c ≡ key_words attitude stage = two ∙ ap (λ (t : List ℕ). t ++ spaced (number stage)) (one ∙ ap (λ (t : List ℕ). t ++ spaced (number attitude)) empty) in
    subst (λ (t : List ℕ). length t ≤ 32) (sym same) (key_words_short attitude stage few small)

pub note_fits : (action : Action) (reason : Reason) (a b : List ℕ) → action.bend < 256 → action.stage < 256 → IsCoded reason → a ≡ [] → b ≡ a ++ line_text (note_line action reason) → length b ≤ 32
note_fits action reason a b bend stage is empty one =
    let same : b ≡ line_text (note_line action reason) = one ∙ ap (λ (t : List ℕ). t ++ line_text (note_line action reason)) empty in
    subst (λ (t : List ℕ). length t ≤ 32) (sym same) (note_short action reason bend stage is)
