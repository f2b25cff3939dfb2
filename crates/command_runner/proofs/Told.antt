-- Over names that are told, fetching comes to one thing.
use Rattle.std.proofs.Common.{◌≡◌, ℕ, ◌<◌, List, [], ◌∷◌, ◌++◌, length, Option, Some, None, Result, Ok, Err, refl}
use Rattle.std.specs.Prelude.{nat_lt, option_map, IsSomeAnd, if◌then◌else◌}
use Rattle.std.specs.List.{AllZip}
use Rattle.std.proofs.lemmas.Bool.{lt-ltb, le-ltb}
use Rattle.brake_io.specs.Meanings.{Content, ShelfState}
use Rattle.command_runner.specs.Fetching.{NamedFile, IsContent, IsTooLong, IsFetched, all_fetched, one_too_long, content_over, fetched_over}

content_is : (shelf : ShelfState) (content : Content) (file : NamedFile) (bytes : List ℕ) → shelf.content ≡ Some content → IsContent shelf file bytes → content_over content.held file ≡ Some (Ok bytes)
content_is shelf content file bytes told is =
    let holds : content.held file.name ≡ Some bytes = rw told at is.holds in
    rw (holds, le-ltb file.limit (length bytes) is.within) refl

too_long_bytes : (o : Option (List ℕ)) (file : NamedFile) → IsSomeAnd o (λ bytes. file.limit < length bytes)
    → option_map (λ (bytes : List ℕ). if nat_lt file.limit (length bytes) then Err file.number else Ok bytes) o ≡ Some (Err file.number)
too_long_bytes None file longer = absurd longer
too_long_bytes (Some bytes) file longer = rw (lt-ltb file.limit (length bytes) longer) refl

pub all_over : (shelf : ShelfState) (content : Content) (files : List NamedFile) (contents : List (List ℕ)) → shelf.content ≡ Some content → AllZip (IsContent shelf) files contents → fetched_over content.held files ≡ Some (Ok contents)
all_over shelf content [] [] told all = refl
all_over shelf content [] (bytes ∷ contents) told all = absurd all
all_over shelf content (file ∷ files) [] told all = absurd all
all_over shelf content (file ∷ files) (bytes ∷ contents) told all = rw (content_is shelf content file bytes told all.0, all_over shelf content files contents told all.1) refl

too_long_over : (shelf now : ShelfState) (content : Content) (before : List NamedFile) (contents : List (List ℕ)) (file : NamedFile) (after : List NamedFile) → shelf.content ≡ Some content
    → AllZip (IsContent shelf) before contents → IsTooLong shelf now file → fetched_over content.held (before ++ (file ∷ after)) ≡ Some (Err file.number)
too_long_over shelf now content [] [] file after told all long =
    let longer : IsSomeAnd (content.held file.name) (λ bytes. file.limit < length bytes) = rw told at long.longer in
    rw (too_long_bytes (content.held file.name) file longer) refl
too_long_over shelf now content [] (bytes ∷ contents) file after told all long = absurd all
too_long_over shelf now content (one ∷ before) [] file after told all long = absurd all
too_long_over shelf now content (one ∷ before) (bytes ∷ contents) file after told all long =
    rw (content_is shelf content one bytes told all.0, too_long_over shelf now content before contents file after told all.1 long) refl

pub told_fetched : (shelf now : ShelfState) (content : Content) (files : List NamedFile) (fetched : Result (List (List ℕ)) ℕ) → shelf.content ≡ Some content → IsFetched shelf now files fetched → fetched_over content.held files ≡ Some fetched
told_fetched shelf now content files fetched told (all_fetched contents all same is) = rw is (all_over shelf content files contents told all)
told_fetched shelf now content files fetched told (one_too_long before contents file after split all long is) =
    rw (split, is) (too_long_over shelf now content before contents file after told all long)
