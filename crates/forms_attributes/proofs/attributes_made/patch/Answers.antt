use Rattle.forms_attributes.proofs.Framing.{patched}
use Rattle.forms_attributes.proofs.attributes_made.patch.Goals as goal

pub returns : goal.returns
returns c = patched c.args.maker.now.bytes.items c.args.start c.args.a c.args.b c.args.c c.args.d c.requires
