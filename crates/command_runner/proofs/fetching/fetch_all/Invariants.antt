use Rattle.std.proofs.Common.{◌≡◌, ◌+◌, ◌≤◌, length, map, take, string_bytes}
use Rattle.std.specs.List.{AllZip}
use Rattle.std.specs.Vec.{vec_items}
use Rattle.brake_io.specs.Meanings.{NoCountFalls}
use Rattle.command_runner.specs.Fetching.{file_of, IsContent}
use Rattle.command_runner.proofs.fetching.fetch_all.Given as goal

abbrev pub invariant-loop-file : goal.invariant-loop-file
invariant-loop-file g l = record {
  content : (g.H.Shelf.state l.shelf).content ≡ (g.H.Shelf.state l.initial.shelf).content;
  calls : (g.H.Shelf.state l.shelf).calls ≤ (g.H.Shelf.state l.initial.shelf).calls + l.file-index;
  falls : NoCountFalls (g.H.Shelf.state l.initial.shelf) (g.H.Shelf.state l.shelf);
  faults : (g.H.Shelf.state l.shelf).faults ≡ (g.H.Shelf.state l.initial.shelf).faults;
  longs : (g.H.Shelf.state l.shelf).longs ≡ (g.H.Shelf.state l.initial.shelf).longs;
  count : length l.contents.items ≡ l.file-index;
  contents : AllZip (IsContent (g.H.Shelf.state l.initial.shelf)) (map (file_of (map string_bytes l.words)) (take l.file-index l.files)) (map vec_items l.contents.items);
}
