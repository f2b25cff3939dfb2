-- What a run comes to, from how it ends.
use Rattle.std.proofs.Common.{◌≡◌, ◌⊎◌, inl, inr, ℕ, List, length, Option, Result, refl, ◌∙◌, subst}
use Rattle.brake_io.specs.Meanings.{Content, ShelfState, WhereBothTold, WhereTold}
use Rattle.command_runner.specs.declared.word_kind.WordKind.{WordKind}
use Rattle.command_runner.specs.declared.status.Status.{Status}
use Rattle.command_runner.specs.Answers.{AnswerData, long_refused}
use Rattle.command_runner.specs.Fetching.{files_of, OnlyFetches, IsFetched, all_fetched, one_too_long}
use Rattle.command_runner.specs.Delivery.{IsCutShort, Outside, HoldsAll, Delivers, delivered, stored_in_part, put_in_part}
use Rattle.command_runner.specs.Ends.{Meaning, Beginning, no_beginning, IsAnswer, IsAnswerAfter, Ends, answers, stops, begun, Leaves, IsOutcome, cut_short, answered, refused_long}

-- what was stored after the files were fetched
stored_since : (before between now : ShelfState) (P : Content → Content → Type 0) → between.content ≡ before.content → WhereTold between now P → WhereTold before now P
stored_since before between now P same told = subst (λ (o : Option Content). WhereBothTold o now.content P) same told

module _ (form : List WordKind) (meaning : Meaning) (words : List (List ℕ)) (before now : Outside) (between : ShelfState) (status : Status) (answer : AnswerData) where
  by_fetched : (fetched : Result (List (List ℕ)) ℕ) → IsFetched before.shelf between (files_of form words) fetched → IsAnswerAfter meaning words fetched answer → now.shelf.longs ≡ between.longs
      → Leaves answer before now status → IsOutcome form meaning words before now status
  by_fetched fetched (all_fetched contents all same is) told longs leaves = answered (record {
    contents = contents;
    are_fetched = all;
    longs = longs ∙ same;
    answer = answer;
    is_answer = subst (λ (f : Result (List (List ℕ)) ℕ). IsAnswerAfter meaning words f answer) is told;
    leaves = leaves;
  })
  by_fetched fetched (one_too_long first contents file after split all long is) told longs leaves =
      let refused : answer ≡ long_refused file.number = subst (λ (f : Result (List (List ℕ)) ℕ). IsAnswerAfter meaning words f answer) is told in
      refused_long (record {
        number = file.number;
        is_fetched = one_too_long first contents file after split all (record { longer = long.longer; counted_long = longs ∙ long.counted_long }) refl;
        longs = longs ∙ long.counted_long;
        leaves = subst (λ (a : AnswerData). Leaves a before now status) refused leaves;
      })

-- what a run comes to
pub outcome_of : (form : List WordKind) (meaning : Meaning) (begins : Beginning) (words : List (List ℕ)) (before now : Outside) (status : Status) → Ends form meaning begins words before now status → IsOutcome form meaning words before now status
outcome_of form meaning begins words before now status (stops short fetches same) = cut_short short
outcome_of form meaning begins words before now status (begun short stored same) = cut_short short
outcome_of form meaning begins words before now status (answers answer between fetches is (stored_in_part short stored puts)) = cut_short short
outcome_of form meaning begins words before now status (answers answer between fetches is (put_in_part short stored puts)) = cut_short short
outcome_of form meaning begins words before now status (answers answer between fetches is (delivered ended stored puts faults sink_faults)) =
    by_fetched form meaning words before now between status answer is.fetched is.is_fetched is.is_answer stored.longs
    (record { ends = ended; stores = stored_since before.shelf between now.shelf (HoldsAll answer.stored) fetches.content stored.holds; puts = puts })

-- how a run ends whose command stores nothing before it has its answer: it stores and puts an answer, or it only fetches
pub ends_whole : (form : List WordKind) (meaning : Meaning) (words : List (List ℕ)) (before now : Outside) (status : Status) → Ends form meaning no_beginning words before now status
    → ((answer : AnswerData) × ((between : ShelfState) × OnlyFetches (length (files_of form words)) before.shelf between
    × IsAnswer form meaning words before.shelf between answer × Delivers answer (record { shelf = between; sink = before.sink }) now status))
    ⊎ (IsCutShort status × OnlyFetches (length (files_of form words)) before.shelf now.shelf × (now.sink ≡ before.sink))
ends_whole form meaning words before now status (answers answer between fetches is delivers) = inl (answer, (between, fetches, is, delivers))
ends_whole form meaning words before now status (stops short fetches same) = inr (short, fetches, same)
ends_whole form meaning words before now status (begun short stored same) = absurd stored.stores.is_beginning
