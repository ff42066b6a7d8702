use Rattle.std.proofs.Common.{◌≡◌, ◌∙◌, false, Some, length, sym, subst, arith, if◌then◌else◌}
use Rattle.std.proofs.lemmas.List.{length-map}
use Rattle.std.specs.Str.{bytes_eq}
use Rattle.signature_model.specs.Declarations.{Name}
use Rattle.syntax_tree.specs.View.{tok_of}
use Rattle.use_typing.specs.Labels.{is_named_in, toks_of}
use Rattle.use_typing.specs.Mentions.{place_in}
use Rattle.use_typing.proofs.Mentioning.{kept_new, places_new}
use Rattle.use_typing.proofs.mentioned.Mentioned.push_new.Goals as goal

pub invariant_of-self : goal.invariant_of-self
invariant_of-self c =
    let t = tok_of c.args.token.now in
    let items = c.self.inside.tokens.items in
    let ts = toks_of items in
    let old = c.self.inside.places in
    let new = c.insert.new.self in
    let counted : c.len.result ≡ length items = let got = c.len.ensures in let listed = c.self.inside.tokens.ok in omega arith in
    let set : (n : Name) → place_in new n ≡ (if bytes_eq t.name n then Some (length ts) else place_in old n) =
    λ n. subst (λ x. place_in new n ≡ (if bytes_eq x n then Some (length ts) else place_in old n)) c.as_str.ensures
    (subst (λ k. place_in new n ≡ (if bytes_eq c.as_str.result.now n then Some k else place_in old n)) (counted ∙ sym (length-map items (λ x. tok_of x.now))) (c.in-Ok.ensures.updates.0 (record { ref_ptr = (0, 0); now = n }))) in
    let unnamed = subst (λ v. is_named_in t.name (toks_of v.items) ≡ false) (sym c.self.view_is) c.requires.new in
    kept_new new items c.push.new.list.items c.push.result c.args.token c.push.ensures.pushed c.push.ensures.failed (places_new new ts old t c.self.invariant unnamed set)
