use Rattle.std.proofs.Common.{◌∙◌, ◌≤◌, [], ◌∷◌, length, sym, arith}
use Rattle.std.proofs.lemmas.List.{take_all, take-append-le}
use Rattle.sheet_page.proofs.kept.DeadEnds.push.Goals as goal

pub returns-else-len-lt4-clause-shown : goal.returns-else-len-lt4-clause-shown
returns-else-len-lt4-clause-shown c =
    let shown = c.args.self.now.shown.items in
    let long : 4 ≤ length shown = omega (arith, c.if-len-lt4.false, c.len.ensures.value) in
    let short : length shown ≤ 4 = omega (arith, c.len.ensures.fits, c.len.ensures.value) in
    sym (take-append-le 4 shown (c.args.state ∷ []) long ∙ take_all 4 shown short)
