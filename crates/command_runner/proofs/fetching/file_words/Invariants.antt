use Rattle.std.proofs.Common.{◌≡◌, ◌++◌, ◌≤◌, drop}
use Rattle.command_runner.specs.Fetching.{file_words_after, file_words}
use Rattle.command_runner.proofs.fetching.file_words.Given as goal

-- the words so far and those of the kinds that are left are all
abbrev pub invariant-loop-place : goal.invariant-loop-place
invariant-loop-place l = record {
  few : l.number ≤ l.place;
  all : l.files.items ++ file_words_after l.place l.number (drop l.place l.kinds) ≡ file_words l.kinds;
}
