use Rattle.std.proofs.Common.{rules, ℕ, ◌∙◌, length, refl, arith}
use Rattle.std.proofs.lemmas.Iterator.{YieldsList-from_range, YieldsList-from_map}
use Rattle.std.proofs.lemmas.Iterator.Consumers.{YieldsList-at, sum_by_from_yields_List, fits_by_from_yields_list}
use Rattle.exchange.specs.Rows.{row}
use Rattle.exchange.proofs.Rows.{wish_count_by_boat, wish_count_fits}
use Rattle.exchange.proofs.host.count_wishes.Goals as goal

pub sum-requires-clause-fits : goal.sum-requires-clause-fits
sum-requires-clause-fits g c =
    let rows = g.H.Host.rows c.args.host.now in
    let len = λ (u : ℕ). length (row rows u) in
    let total = wish_count_by_boat rows in
    let fits = wish_count_fits rows (g.met.H.Host.sound c.args.host.now) in
    let map = c.map.ensures in
    let boats = YieldsList-at map.source (YieldsList-from_range _ _ (length rows) refl (omega arith)) in
    fits_by_from_yields_list len _ _ _ (YieldsList-from_map _ len boats map.closure (λ x r q k. search rules)) (omega arith)

pub returns : goal.returns
returns g c =
    let rows = g.H.Host.rows c.args.host.now in
    let len = λ (u : ℕ). length (row rows u) in
    let map = c.map.ensures in
    let boats = YieldsList-at map.source (YieldsList-from_range _ _ (length rows) refl (omega arith)) in
    sum_by_from_yields_List len _ _ _ c.sum.ensures.ran (YieldsList-from_map _ len boats map.closure (λ x r q k. search rules))
    ∙ wish_count_by_boat rows
