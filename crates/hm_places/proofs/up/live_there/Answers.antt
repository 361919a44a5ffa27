use Rattle.std.proofs.Common.{◌∙◌, ap, sym, refl, length}
use Rattle.std.proofs.lemmas.Option.{slice_get_past, slice_get_read}
use Rattle.std.specs.Option.{option_copied}
use Rattle.hm_places.specs.Servers.{first_there}
use Rattle.hm_places.proofs.Live.{live_are}
use Rattle.hm_places.proofs.There.{there_ended, there_found, there_other}
use Rattle.hm_places.proofs.up.live_there.Goals as goal

pub returns-in_err-number : goal.returns-in_err-number
returns-in_err-number c =
    ap option_copied c.from_residual.ensures ∙ sym (there_ended c.args.rows.now.came c.args.server.now c.args.live.now c.address_from.result (slice_get_past c.args.live.now c.address_from.result c.in_err-number.ensures.lookup.3) c.address_from.ensures.low)
    ∙ ap (λ names. first_there names c.args.server.now) (live_are c.args.rows.now.came c.args.rows.now.pairs c.args.live.now c.requires.live c.requires.rising)

pub returns-in-Some : goal.returns-in-Some
returns-in-Some c =
    sym (there_found c.args.rows.now.came c.args.server.now c.args.live.now c.address_from.result c.in_ok-number.number.now c.in-Some.field-0.now (slice_get_read c.args.live.now (length c.args.live.now) c.address_from.result c.in_ok-number.number.now refl c.in_ok-number.ensures.lookup.3.0 c.in_ok-number.ensures.lookup.1) (sym c.in-Some.ensures) (sym c.at_address.ensures ∙ c.if-at_address.true) c.address_from.ensures.low)
    ∙ ap (λ names. first_there names c.args.server.now) (live_are c.args.rows.now.came c.args.rows.now.pairs c.args.live.now c.requires.live c.requires.rising)

pub returns-in-Some-2 : goal.returns-in-Some-2
returns-in-Some-2 c =
    sym (there_other c.args.rows.now.came c.args.server.now c.args.live.now c.address_from.result c.in_ok-number.number.now c.in-Some.field-0.now (slice_get_read c.args.live.now (length c.args.live.now) c.address_from.result c.in_ok-number.number.now refl c.in_ok-number.ensures.lookup.3.0 c.in_ok-number.ensures.lookup.1) (sym c.in-Some.ensures) (sym c.at_address.ensures ∙ c.if-at_address.false) c.requires.live.rises c.address_from.ensures.low c.address_from.ensures.high)
    ∙ ap (λ names. first_there names c.args.server.now) (live_are c.args.rows.now.came c.args.rows.now.pairs c.args.live.now c.requires.live c.requires.rising)
