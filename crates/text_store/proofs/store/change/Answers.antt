use Rattle.std.proofs.Common.{rules, ◌≡◌, sym, subst}
use Rattle.std.specs.Str.{IsUtf8}
use Rattle.text_model.specs.Edits.{apply}
use Rattle.text_store.proofs.Wholes.{apply_utf8}
use Rattle.text_store.proofs.store.change.Goals as goal

pub returns-clause-utf8 : goal.returns-clause-utf8
returns-clause-utf8 c =
    let made : c.replace.new.self.items ≡ apply c.args.text.now.items c.args.start c.args.end c.args.piece.now = search rules in
    subst IsUtf8 (sym made) (apply_utf8 c.args.text.now.items c.args.piece.now c.args.start c.args.end c.requires.utf8.0 c.requires.utf8.1 c.requires.order.0 c.requires.order.1 c.requires.whole.0 c.requires.whole.1)
