use Rattle.std.proofs.Common.{◌≡◌, ◌∙◌, false, refl}
use Rattle.text_terms.specs.Bytes.{str_bytes}
use Rattle.type_terms.specs.Views.{path_of}
use Rattle.type_print.specs.Texts.{IsLast, is_known}
use Rattle.type_print.proofs.Known.{last_front, named_last}
use Rattle.type_print.proofs.printing.write_name.Goals as goal

pub returns-in-Some-clause-text : goal.returns-in-Some-clause-text
returns-in-Some-clause-text c f all =
    let said = c.in-Some.ensures.some f (rw c.deref.ensures.value all) in
    (c.in_ok-push.ensures ∙ rw (c.as_str.ensures, said), all)

pub returns-clause-known : goal.returns-clause-known
returns-clause-known c nodes is all =
    let last : IsLast (path_of c.args.origin.now) (str_bytes c.in_ok-name.name) c.args.written.now.known.items c.remember.new.known.items = c.in_ok-remember.ensures in
    let none : is_known (path_of c.args.origin.now) c.args.written.now.known.items ≡ false = rw c.deref.ensures.value at (c.in_default.ensures.none refl) in
    named_last nodes c.args.env.now (path_of c.args.origin.now) (str_bytes c.args.origin.now.name) _ c.args.written.now.known.items c.remember.new.known.items is c.in_ok-name.ensures.search last none all

pub returns-clause-text : goal.returns-clause-text
returns-clause-text c f all =
    let last : IsLast (path_of c.args.origin.now) (str_bytes c.in_ok-name.name) c.args.written.now.known.items c.remember.new.known.items = c.in_ok-remember.ensures in
    let front = last_front f (path_of c.args.origin.now) _ c.args.written.now.known.items c.remember.new.known.items last all in
    (c.in_ok-push-2.ensures ∙ rw (c.as_str-2.ensures, front.1), front.0)
