use Rattle.std.proofs.Common.{string_bytes, sym}
use Rattle.std.proofs.lemmas.Bool.{ltb-true, ltb-false}
use Rattle.command_runner.proofs.Fetches.{seen_at, none_seen}
use Rattle.command_runner.proofs.fetching.word_at.Goals as goal

pub returns-in-Some : goal.returns-in-Some
returns-in-Some c =
    let found = c.in-Some.ensures.lookup in
    seen_at string_bytes c.args.words.now c.args.place c.in-Some.word.now c.as_str.result.now (ltb-true _ _ (sym found.0)) found.1 c.as_str.ensures.value

pub returns-in-None : goal.returns-in-None
returns-in-None c = sym (none_seen string_bytes c.args.words.now c.args.place (ltb-false _ _ (sym c.in-None.ensures.lookup.0)))
