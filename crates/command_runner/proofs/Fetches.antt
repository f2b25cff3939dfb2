-- What fetching files comes to, from what each fetch says.
use Rattle.std.proofs.Common.{◌≡◌, ◌⊎◌, inl, inr, ℕ, suc, ◌+◌, ◌<◌, ◌≤◌, List, [], ◌∷◌, ◌++◌, length, get_or, map, take, drop, Option, Some, None, Ok, Err, Vec, Global, refl, sym, ap, ◌∙◌, drop-cons, arith}
use Rattle.std.specs.Prelude.{IfSome, Any}
use Rattle.std.specs.List.{AllZip, slice_index_or}
use Rattle.std.specs.Vec.{vec_items}
use Rattle.std.proofs.lemmas.List.{length-map, get_or-map, get_or_past, map-append, map_more, map_push, take-append-drop, take_all}
use Rattle.std.proofs.lemmas.Slice.Zip.{all_zipped_more}
use Rattle.brake_io.specs.Meanings.{Content, ShelfState, IsDue, MayFailAt}
use Rattle.command_runner.specs.declared.fetching.FileWord.{FileWord}
use Rattle.command_runner.specs.declared.fetching.FetchStop.{FetchStop}
use Rattle.command_runner.specs.declared.fetching.FetchStop.TheVariants.{TooLong, Fault, NoMemory}
use Rattle.command_runner.specs.Stops.{OnTooLong}
use Rattle.command_runner.specs.Fetching.{NamedFile, names_of, word_at, file_of, IsContent, IsTooLong, IsFetched, all_fetched, one_too_long, IsDueBetween, HasCause}

-- an item of a list by its place, as its view
pub seen_at : {X : Type 0} (view : X → List ℕ) (xs : List X) (place : ℕ) (x : X) (seen : List ℕ) → place < length xs → x ≡ get_or xs place x → seen ≡ view x → seen ≡ slice_index_or (map view xs) place []
seen_at view xs place x seen within here same = same ∙ ap view here ∙ sym (get_or-map view xs place x [] within)

-- nothing is read past the last item
pub none_seen : {X : Type 0} (view : X → List ℕ) (xs : List X) (place : ℕ) → length xs ≤ place → slice_index_or (map view xs) place [] ≡ []
none_seen view xs place past = get_or_past (map view xs) place [] (rw length-map past)

-- the contents of the files so far, and of one more
pub contents_more : (shelf : ShelfState) (words : List (List ℕ)) (files : List FileWord) (i : ℕ) (file : FileWord) (contents : List (Vec ℕ Global)) (bytes : Vec ℕ Global) → i < length files
    → AllZip (IsContent shelf) (map (file_of words) (take i files)) (map vec_items contents) → IsContent shelf (file_of words (get_or files i file)) bytes.items
    → AllZip (IsContent shelf) (map (file_of words) (take (i + 1) files)) (map vec_items (contents ++ bytes ∷ []))
contents_more shelf words files i file contents bytes within so_far next =
    rw (map_more (file_of words) files i file within, map_push vec_items contents bytes)
    (all_zipped_more (IsContent shelf) (map (file_of words) (take i files)) (map vec_items contents) (file_of words (get_or files i file)) bytes.items so_far next)

-- what is held doesn't depend on the counts
pub content_kept : (first before : ShelfState) (file : NamedFile) (bytes : List ℕ) → before.content ≡ first.content → IsContent before file bytes → IsContent first file bytes
content_kept first before file bytes same is = record { holds = rw same at is.holds; within = is.within }

pub too_long_kept : (first before now : ShelfState) (file : NamedFile) → before.content ≡ first.content → before.longs ≡ first.longs → IsTooLong before now file → IsTooLong first now file
too_long_kept first before now file same longs is = record { longer = rw same at is.longer; counted_long = rw longs at is.counted_long }

-- the contents of all files
pub fetched_all : (before now : ShelfState) (words : List (List ℕ)) (files : List FileWord) (i : ℕ) (contents : List (List ℕ)) → length files ≤ i → now.longs ≡ before.longs
    → AllZip (IsContent before) (map (file_of words) (take i files)) contents → IsFetched before now (map (file_of words) files) (Ok contents)
fetched_all before now words files i contents past same all = all_fetched contents (rw (take_all i files past) at all) same refl

-- the files around one of them
around : (f : FileWord → NamedFile) (files : List FileWord) (i : ℕ) (file : FileWord) → i < length files → map f files ≡ map f (take i files) ++ (f (get_or files i file) ∷ map f (drop (suc i) files))
around f files i file within =
    ap (map f) (sym (take-append-drop i files)) ∙ map-append f (take i files) (drop i files) ∙ ap (λ (rest : List FileWord). map f (take i files) ++ map f rest) (drop-cons files i file within)

-- the number of a file that is too long, where those before it have contents
pub stops_too_long : (first before now : ShelfState) (words : List (List ℕ)) (files : List FileWord) (i : ℕ) (file : FileWord) (contents : List (List ℕ)) (stop : FetchStop) → i < length files
    → before.content ≡ first.content → before.longs ≡ first.longs → AllZip (IsContent first) (map (file_of words) (take i files)) contents
    → OnTooLong stop (λ number. (number ≡ (get_or files i file).number) × IsTooLong before now (file_of words (get_or files i file)))
    → OnTooLong stop (λ number. IsFetched first now (map (file_of words) files) (Err number))
stops_too_long first before now words files i file contents (TooLong number) within same longs fetched long =
    one_too_long (map (file_of words) (take i files)) contents (file_of words (get_or files i file)) (map (file_of words) (drop (suc i) files)) (around (file_of words) files i file within) fetched
    (too_long_kept first before now (file_of words (get_or files i file)) same longs long.1) (ap (λ (n : ℕ). Err n) long.0)
stops_too_long first before now words files i file contents Fault within same longs fetched long = tt
stops_too_long first before now words files i file contents NoMemory within same longs fetched long = tt

-- the name of a file among the names of all
name_is : (words : List (List ℕ)) (files : List FileWord) (i : ℕ) (file : FileWord) → i < length files → get_or (names_of (map (file_of words) files)) i (word_at words (get_or files i file).place) ≡ word_at words (get_or files i file).place
name_is words files i file within =
    get_or-map (λ (f : NamedFile). f.name) (map (file_of words) files) i (file_of words file) _ (rw length-map within) ∙ ap (λ (f : NamedFile). f.name) (get_or-map (file_of words) files i file (file_of words file) within)

cause_among : (content : Option Content) (first before now : ℕ) (names : List (List ℕ)) (i : ℕ) (name : List ℕ) → i < length names → get_or names i name ≡ name → first ≤ before
    → IfSome content (λ c. (c.held name ≡ None) ⊎ IsDue c.due before now) → IfSome content (λ c. Any (λ name. c.held name ≡ None) names ⊎ IsDueBetween first now c.due)
cause_among None first before now names i name within here least cause = tt
cause_among (Some content) first before now names i name within here least (inl missing) = inl (i, name, within, here, missing)
cause_among (Some content) first before now names i name within here least (inr due) = inr (due.1.0, now, due.1.1, due.1.2, (omega (arith, least, due.0), omega arith))

-- a fault at one of the files has its cause
pub fault_cause : (first before now : ShelfState) (words : List (List ℕ)) (files : List FileWord) (i : ℕ) (file : FileWord) → i < length files → before.content ≡ first.content → first.calls ≤ before.calls
    → MayFailAt (word_at words (get_or files i file).place) before now → HasCause (names_of (map (file_of words) files)) first now
fault_cause first before now words files i file within same least cause =
    cause_among first.content first.calls before.calls now.calls (names_of (map (file_of words) files)) i (word_at words (get_or files i file).place) (rw (length-map, length-map) within) (name_is words files i file within) least (rw same at cause)
