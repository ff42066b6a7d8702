use Rattle.std.proofs.Common.{map, sym}
use Rattle.std.specs.Prelude.{option_map}
use Rattle.text_terms.specs.Bytes.{str_bytes}
use Rattle.pattern_matrix.specs.Views.{typed_of}
use Rattle.match_warnings.specs.Patterns.{MembersAre}
use Rattle.match_warnings.proofs.Finding.{by_exception, declared_entry, ok_alone_as}
use Rattle.match_warnings.proofs.pats.of_entry.Goals as goal

pub returns-in-Constructor : goal.returns-in-Constructor
returns-in-Constructor c =
    declared_entry c.declared.result (option_map typed_of) c.args.entry.now c.args.entry.now.what c.in-Constructor.declaration c.in-Constructor.field-1 c.deref.result.now c.args.seen.now.items c.declared.new.seen.items (str_bytes c.args.name.now) (map typed_of c.args.parts.items)
    c.in-Constructor.is c.deref.ensures c.declared.ensures

pub returns-in_default : goal.returns-in_default
returns-in_default c =
    ok_alone_as c.exception.result (option_map typed_of) (λ members. MembersAre members c.args.entry.now.what) c.args.seen.now.items _ _
    (sym (by_exception c.args.entry.now c.args.entry.now.what (str_bytes c.args.name.now) (map typed_of c.args.parts.items) (λ d k. c.in_default.not-Constructor d k))) c.exception.ensures
