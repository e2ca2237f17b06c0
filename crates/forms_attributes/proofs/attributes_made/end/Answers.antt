use Rattle.std.proofs.Common.{◌≡◌, ◌-◌, Some, length, drop, ap, refl, sym, ◌∙◌, ◌+◌, ◌%◌, rules}
use Rattle.std.specs.Prelude.{option_map, replicate}
use Rattle.serde_json.specs.View.{view}
use Rattle.forms_attributes.specs.AttributesMade.{pad_or}
use Rattle.forms_values.specs.Raw.{hex_made}
use Rattle.forms_attributes.proofs.Framing.{framed_end, pad_is}
use Rattle.forms_attributes.proofs.attributes_made.end.Goals as goal

pub returns-in-Some : goal.returns-in-Some
returns-in-Some c =
    let long : c.len.result ≡ length c.args.maker.now.bytes.items = search rules in
    framed_end c.args.maker.now.bytes.items c.patch.new.maker.bytes.items c.make_hex_at.new.maker.bytes.items c.args.start (c.len.result - c.args.start)
    _ _ _ _ c.args.word
    (hex_made (view c.in-Some.pad.now)) (option_map (λ p. view p.now) c.args.pad) c.make_hex_at.result c.requires (ap (λ n. n - c.args.start) long)
    c.if-len-gt65535.false c.ranges.word.fits refl refl refl refl c.patch.ensures
    (ap (λ o. pad_or (drop (c.args.start + 4) c.args.maker.now.bytes.items) (option_map (λ p. view p.now) o)) (sym c.in-Some.is)) c.make_hex_at.ensures

pub returns-in-None : goal.returns-in-None
returns-in-None c =
    let long : c.len.result ≡ length c.args.maker.now.bytes.items = search rules in
    framed_end c.args.maker.now.bytes.items c.patch.new.maker.bytes.items c.put_zeros.new.self.bytes.items c.args.start (c.len.result - c.args.start)
    _ _ _ _ c.args.word
    (Some (replicate ((4 - (c.len.result - c.args.start) % 4) % 4) 0)) (option_map (λ p. view p.now) c.args.pad) c.put_zeros.result c.requires
    (ap (λ n. n - c.args.start) long) c.if-len-gt65535.false c.ranges.word.fits refl refl refl refl c.patch.ensures
    (pad_is c.args.maker.now.bytes.items c.args.start (c.len.result - c.args.start) c.requires (ap (λ n. n - c.args.start) long)
    ∙ ap (λ o. pad_or (drop (c.args.start + 4) c.args.maker.now.bytes.items) (option_map (λ p. view p.now) o)) (sym c.in-None.is)) c.put_zeros.ensures
