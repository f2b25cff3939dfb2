-- Maps that are put together along the chain of parents of a face.
use Rattle.std.specs.Prelude.{ℕ, zero, suc, List}
use Rattle.brake_base.specs.Turns.{Map, stay, after}
use Rattle.part_file.specs.Part.{FaceData}
use Rattle.unfolder.specs.Cores.{joint_of}

-- The steps of the bends from face f to the root, one after the other, where the way has at most n
-- of them: that of the face's own bend comes first, then those of its parent.
abbrev pub steps_to_root : List FaceData → (ℕ → Map) → ℕ → ℕ → Map
steps_to_root faces step n zero = stay
steps_to_root faces step zero (suc f) = stay
steps_to_root faces step (suc n) (suc f) =
    after (steps_to_root faces step n (joint_of faces (suc f)).on) (step (suc f))

-- The map from the frame of face f to that of the root. A parent has a smaller number than its
-- child.
unfoldable pub to_root : List FaceData → (ℕ → Map) → ℕ → Map
to_root faces step f = steps_to_root faces step f f
