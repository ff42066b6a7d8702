use Rattle.type_expressions.proofs.Untyped.{untyped_then, store_untyped, bound_untyped}
use Rattle.std.proofs.Common.{option_map, sym, ap, subst}
use Rattle.syntax_tree.specs.View.{tok_of}
use Rattle.row_parts.specs.Numbered.{path_view, token_view}
use Rattle.type_nodes.specs.Views.{numbers}
use Rattle.typing_rows.specs.Declaring.{NamesTo}
use Rattle.typing_rows.specs.Operands.{EndsName}
use Rattle.typing_rows.proofs.Named.{name_ends, nameless_ends}
use Rattle.typing_rows.specs.DeclaredContracts.{SettlesNamed}
use Rattle.typing_rows.specs.DeclaredOperands.{SettlesName}
use Rattle.typing_rows.proofs.DeclaredOrdered.{silent_reports}
use Rattle.typing_rows.proofs.DeclaredNamed.{name_settles, nameless_settles}
use Rattle.declared_rows.specs.Contracts.{DenotesNamed}
use Rattle.declared_rows.specs.Operands.{DenotesName}
use Rattle.declared_rows.proofs.Named.{name_denotes, nameless_denotes}
use Rattle.type_expressions.proofs.types.constructed.Goals as goal

pub returns-in_default-clause-carries : goal.returns-in_default-clause-carries
returns-in_default-clause-carries c = λ item.
    let qs = (path_view c.args.path.now).qualifiers in
    subst (λ l. EndsName c.args.at.now c.unresolved.new.at c.args.env.now (record { qualifiers = qs; last = l }) (numbers c.args.types.now) c.in_ok-ty.ty.0) (sym (ap token_view c.in_default.is))
    (λ ns n. nameless_ends c.args.at.now c.unresolved.new.at c.args.env.now qs ns (numbers c.args.types.now) n c.in_ok-ty.ty.0 (c.in_ok-ty.ensures.any item) c.unresolved.ensures.rest)

pub returns-clause-carries : goal.returns-clause-carries
returns-clause-carries c = λ item.
    let qs = (path_view c.args.path.now).qualifiers in
    let t = tok_of c.in-Some.last.now in
    let ms = numbers c.args.types.now in
    let m = c.in_ok-ty-2.ty.0 in
    let named = subst (λ o. NamesTo (option_map (λ r. r.value) o) c.bound.new.self c.named_type.new.at t ms m) c.as_ref-2.ensures.value (c.in_ok-ty-2.ensures.carries item) in
    subst (λ l. EndsName c.args.at.now c.named_type.new.at c.args.env.now (record { qualifiers = qs; last = l }) ms m) (sym (ap token_view c.in-Some.is))
    (λ ns n. name_ends c.args.at.now c.bound.new.self c.named_type.new.at c.args.env.now (option_map (λ r. r.value) c.in_ok-entry.entry) qs t ns ms n m c.in_ok-entry.ensures.verdict named)

pub returns-in_default-clause-settles : goal.returns-in_default-clause-settles
returns-in_default-clause-settles c = λ names over.
    let qs = (path_view c.args.path.now).qualifiers in
    subst (λ l. SettlesName c.args.at.now c.unresolved.new.at c.args.env.now names (record { qualifiers = qs; last = l }) (numbers c.args.types.now)) (sym (ap token_view c.in_default.is))
    (λ ns n. nameless_settles c.args.at.now c.unresolved.new.at c.args.env.now names qs ns (numbers c.args.types.now) n (silent_reports c.args.at.now c.unresolved.new.at c.unresolved.ensures.silent))

pub returns-clause-settles : goal.returns-clause-settles
returns-clause-settles c = λ names over.
    let qs = (path_view c.args.path.now).qualifiers in
    let t = tok_of c.in-Some.last.now in
    let ms = numbers c.args.types.now in
    let named = subst (λ o. SettlesNamed (option_map (λ r. r.value) o) c.bound.new.self c.named_type.new.at names t ms) c.as_ref-2.ensures.value (c.in_ok-ty-2.ensures.settles names over) in
    subst (λ l. SettlesName c.args.at.now c.named_type.new.at c.args.env.now names (record { qualifiers = qs; last = l }) ms) (sym (ap token_view c.in-Some.is))
    (λ ns n. name_settles c.args.at.now c.bound.new.self c.named_type.new.at c.args.env.now names (option_map (λ r. r.value) c.in_ok-entry.entry) qs t ns ms n c.in_ok-entry.ensures.verdict named)

pub returns-in_default-clause-means : goal.returns-in_default-clause-means
returns-in_default-clause-means c = λ names ps over nodes.
    let qs = (path_view c.args.path.now).qualifiers in
    subst (λ l. DenotesName c.args.at.now c.unresolved.new.at c.args.env.now names ps (record { qualifiers = qs; last = l }) (numbers c.args.types.now) c.in_ok-ty.ty.0) (sym (ap token_view c.in_default.is))
    (λ ns n. nameless_denotes c.args.at.now c.unresolved.new.at c.args.env.now names ps qs ns (numbers c.args.types.now) n c.in_ok-ty.ty.0 (c.in_ok-ty.ensures.unknown names over))

pub returns-clause-means : goal.returns-clause-means
returns-clause-means c = λ names ps over nodes.
    let qs = (path_view c.args.path.now).qualifiers in
    let t = tok_of c.in-Some.last.now in
    let ms = numbers c.args.types.now in
    let m = c.in_ok-ty-2.ty.0 in
    let named = subst (λ o. DenotesNamed (option_map (λ r. r.value) o) c.bound.new.self c.named_type.new.at names t ms m) c.as_ref-2.ensures.value (c.in_ok-ty-2.ensures.means names over) in
    subst (λ l. DenotesName c.args.at.now c.named_type.new.at c.args.env.now names ps (record { qualifiers = qs; last = l }) ms m) (sym (ap token_view c.in-Some.is))
    (λ ns n. name_denotes c.args.at.now c.bound.new.self c.named_type.new.at c.args.env.now names ps (option_map (λ r. r.value) c.in_ok-entry.entry) qs t ns ms n m c.in_ok-entry.ensures.verdict named)

pub returns-in_default-clause-untyped : goal.returns-in_default-clause-untyped
returns-in_default-clause-untyped c = store_untyped c.args.at.now c.unresolved.new.at c.unresolved.ensures.rest

pub returns-clause-untyped : goal.returns-clause-untyped
returns-clause-untyped c = untyped_then (bound_untyped _ _ c.args.at.now c.bound.new.self _ _ _ c.in_ok-entry.ensures.verdict) c.in_ok-ty-2.ensures.untyped
