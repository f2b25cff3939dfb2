use Rattle.std.proofs.Common.{[], sym, append-nil}
use Rattle.sheet_page.proofs.Sections.{parts_put}
use Rattle.sheet_page.proofs.no_plan.put_parts.Goals as goal

pub returns : goal.returns
returns c =
    parts_put c.args.job.now 0 [] c.flat_blank-flat.result c.args.out.now.items c.put_blank_section.new.out.items c.put_stations.new.out.items c.put_stations.result c.flat_blank-flat.ensures.moved c.in_ok-put_blank_section.ensures (sym (append-nil _)) c.in_ok-put_face_section.ensures c.put_stations.ensures
