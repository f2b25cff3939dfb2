-- The four sides.
use Rattle.std.proofs.Common.{◌≡◌, true, false, refl}
use Rattle.part_file.specs.declared.part.Side.{Side}
use Rattle.part_file.specs.declared.part.Side.TheVariants.{N, E, S, W}
use Rattle.part_file.specs.Part.{same_side}

-- a value for each side
abbrev pub by_side : {A : Type 0} → A → A → A → A → Side → A
by_side n e s w N = n
by_side n e s w E = e
by_side n e s w S = s
by_side n e s w W = w

-- what holds for each side's value, and for each side
pub each_side : {A : Type 0} (P : A → Type 0) (n e s w : A) → P n → P e → P s → P w → (side : Side) → P (by_side n e s w side)
each_side P n e s w pn pe ps pw N = pn
each_side P n e s w pn pe ps pw E = pe
each_side P n e s w pn pe ps pw S = ps
each_side P n e s w pn pe ps pw W = pw

pub every_side : (P : Side → Type 0) → P N → P E → P S → P W → (side : Side) → P side
every_side P n e s w N = n
every_side P n e s w E = e
every_side P n e s w S = s
every_side P n e s w W = w

pub same_side_is : (a b : Side) → same_side a b ≡ true → a ≡ b
same_side_is N N same = refl
same_side_is E E same = refl
same_side_is S S same = refl
same_side_is W W same = refl
same_side_is N E same = absurd (cc)
same_side_is N S same = absurd (cc)
same_side_is N W same = absurd (cc)
same_side_is E N same = absurd (cc)
same_side_is E S same = absurd (cc)
same_side_is E W same = absurd (cc)
same_side_is S N same = absurd (cc)
same_side_is S E same = absurd (cc)
same_side_is S W same = absurd (cc)
same_side_is W N same = absurd (cc)
same_side_is W E same = absurd (cc)
same_side_is W S same = absurd (cc)

-- what holds for the three other sides
pub but_north : (P : Side → Type 0) → P E → P S → P W → (side : Side) → same_side side N ≡ false → P side
but_north P e s w N other = absurd (cc)
but_north P e s w E other = e
but_north P e s w S other = s
but_north P e s w W other = w

pub but_east : (P : Side → Type 0) → P N → P S → P W → (side : Side) → same_side side E ≡ false → P side
but_east P n s w N other = n
but_east P n s w E other = absurd (cc)
but_east P n s w S other = s
but_east P n s w W other = w

pub but_south : (P : Side → Type 0) → P N → P E → P W → (side : Side) → same_side side S ≡ false → P side
but_south P n e w N other = n
but_south P n e w E other = e
but_south P n e w S other = absurd (cc)
but_south P n e w W other = w

pub but_west : (P : Side → Type 0) → P N → P E → P S → (side : Side) → same_side side W ≡ false → P side
but_west P n e s N other = n
but_west P n e s E other = e
but_west P n e s S other = s
but_west P n e s W other = absurd (cc)
