use Rattle.std.proofs.Common.{ℕ}
use Rattle.text_terms.specs.Bytes.{str_bytes}
use Rattle.session.proofs.Sizing.{appended}
use Rattle.session.proofs.session.Session.append.Goals as goal

pub returns-in-Ok : goal.returns-in-Ok
returns-in-Ok g c =
    let end : ℕ × ℕ = (c.last_place-end.result.line, c.last_place-end.result.col) in
    appended c.args.self.now.text (str_bytes c.args.text) end c.in-Ok.field-0 c.apply.new.self.text c.last_place-end.ensures.place c.in-Ok.ensures.done
