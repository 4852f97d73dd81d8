-- `session::show_picture` meets its contract.
use Rattle.session.proofs.Showing.{leaves, picture_shown_lem}
use Rattle.session.proofs.show_picture.Goals as goal

pub returns : goal.returns
returns g c =
    let a = c.args in
    let e = picture_shown_lem a.p a.m a.picture.now a.out.now a.refusal a.length _ c.size_of-size.ensures.size _ c.choose.ensures.chosen _ c.choose-2.ensures.chosen _ c.choose-3.ensures.chosen _ c.lent-bytes.ensures.bytes in
    let rest_of_it = leaves _ _ e _ _ (c.show_bytes.ensures.page, c.show_bytes.ensures.bytes) in
    record { page = rest_of_it.0; bytes = rest_of_it.1 }
