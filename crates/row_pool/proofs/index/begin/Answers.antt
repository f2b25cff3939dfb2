use Rattle.std.proofs.Common.{rules, ◌≡◌, ℕ, ◌+◌, ◌≤◌, length, get_or, subst, sym}
use Rattle.std.specs.Prelude.{vec_len, vec_capacity}
use Rattle.row_pool.proofs.IndexLemmas.{begin_room, index_begin}
use Rattle.row_pool.proofs.index.begin.Goals as goal

pub push_zeros-requires : goal.push_zeros-requires
push_zeros-requires c =
    let starts = c.args.starts.now.items in
    let ends = c.args.ends.now.items in
    let limit = vec_capacity c.args.ends.now in
    let none : get_or starts c.args.set 0 ≡ 0 = search rules in
    let long : vec_len c.args.ends.now ≡ length ends = search rules in
    let room = begin_room starts ends c.args.places limit c.requires.index c.args.set c.requires.set none in
    record { room = subst (λ (n : ℕ). n + c.args.places ≤ limit) (sym long) room }

pub returns-then-index-eq0-clause-index : goal.returns-then-index-eq0-clause-index
returns-then-index-eq0-clause-index c =
    let starts = c.args.starts.now.items in
    let ends = c.args.ends.now.items in
    let places = c.args.places in
    let limit = vec_capacity c.args.ends.now in
    let none : get_or starts c.args.set 0 ≡ 0 = search rules in
    let long : c.len.result ≡ length ends = search rules in
    rw (c.push_zeros.ensures.zeros, c.push_zeros.ensures.same_memory, long)
    (index_begin starts ends places limit c.requires.index c.args.set c.requires.set c.requires.some none)
