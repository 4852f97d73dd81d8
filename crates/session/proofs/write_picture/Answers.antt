-- `session::write_picture` meets its contract: no picture, one that stands as it is, and one that is woven.
use Rattle.session.proofs.Showing.{ppm_none, ppm_high, ppm_drawn, ppm_woven}
use Rattle.session.proofs.write_picture.Goals as goal

pub returns-then-p : goal.returns-then-p
returns-then-p g c =
    let a = c.args in
    record { bytes = ppm_none a.p a.picture.now a.out.now c.if-p.true }

pub returns-then-p-eq0 : goal.returns-then-p-eq0
returns-then-p-eq0 g c =
    let a = c.args in
    record { bytes = ppm_drawn a.p a.picture.now a.out.now c.if-p.false _ c.put_ppm-head.ensures.bytes c.if-p-eq0.true }

pub write_woven-requires : goal.write_woven-requires
write_woven-requires g c = ppm_high c.args.p c.if-p.false

pub returns : goal.returns
returns g c =
    let a = c.args in
    record { bytes = ppm_woven a.p a.picture.now a.out.now c.if-p.false _ c.put_ppm-head.ensures.bytes c.if-p-eq0.false _ c.write_woven.ensures.bytes }
