use Rattle.std.proofs.Common.{refl, arith}
use Rattle.cert_merge.proofs.BaseTaking.{all_taken, none_taken, one_taken}
use Rattle.cert_merge.proofs.base_rows.take_below.Goals as goal

pub loop-head-init : goal.loop-head-init
loop-head-init c = record {
  all = refl;
  within = omega arith;
  some = c.requires;
  taken = λ job rows left. none_taken job rows c.args.end c.args.heads.now.items c.args.texts.now left;
}

pub loop-head-preserved : goal.loop-head-preserved
loop-head-preserved c =
    let so_far = c.loop-head.invariant in
    let some = so_far.some in
    let next = c.in-Some.ensures.taken some.0 some.1 some.2 in
    let within = so_far.within in
    let shorter = c.in-Some.ensures.shorter in
    record {
      all = refl;
      within = omega (arith, within, shorter);
      some = (some.0, next.1, next.5);
      taken = λ job rows left.
          let so = so_far.taken job rows left in
          one_taken job rows c.args.end c.args.heads.now.items c.loop-head.heads.items c.push.new.self.items c.loop-head.texts c.in-Some.behind c.in-Some.head so (c.in-Some.ensures.taken job so.left so.are_left) c.in_ok-push.ensures.items;
    }

pub returns : goal.returns
returns c = λ job rows left.
    let so = c.loop-head.invariant.taken job rows left in
    all_taken job rows c.args.end c.args.heads.now.items c.loop-head.heads.items c.args.texts.now c.loop-head.texts c.split_at.result.0.now _ left so (c.in_default.ensures.taken job so.left so.are_left) refl c.split_at.ensures.front
