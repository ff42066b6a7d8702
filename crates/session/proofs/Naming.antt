-- What is said of names.
use Rattle.std.proofs.Common.{◌≡◌, inl, inr, ℕ, List, map, filter, refl, sym, ◌∙◌, ap, subst, Result, Ok, Err, IfOk, true, false}
use Rattle.std.specs.Prelude.{Option, Some, None}
use Rattle.std.proofs.lemmas.Bool.{eq-eqb}
use Rattle.std.specs.declared.vec.Vec.{Vec}
use Rattle.std.specs.declared.alloc.Global.{Global}
use Rattle.std.specs.declared.alloc.AllocError.{AllocError}
use Rattle.text_terms.specs.Bytes.{str_bytes}
use Rattle.text_terms.specs.declared.Span.{Span}
use Rattle.tree_model.specs.Trees.{Tree}
use Rattle.query_model.specs.NameTokens.{Name}
use Rattle.service_model.specs.Replies as said
use Rattle.service_model.specs.Answers.{ItemsAre, NameIs, PlaceIs, UsesAre, shown_place}
use Rattle.syntax_tree.specs.View.{place_of, trees_of}
use Rattle.env_table.specs.declared.entries.Place.{Place}
use Rattle.env_table.specs.declared.entries.Place.TheVariants.{Buffer, Prelude, BuiltIn}
use Rattle.frame_parser.specs.declared.whole.Parsed.{Parsed}
use Rattle.name_queries.specs.Places.{MeetsName, is_defined_at, same_place, same_span}
use Rattle.query_engine.specs.declared.asked.QueryFault.{QueryFault}
use Rattle.query_engine.specs.declared.asked.QueryFault.TheVariants as fault
use Rattle.json_lines.specs.Means.{said_of}
use Rattle.json_lines.specs.declared.reply.Reply.{Reply}
use Rattle.session.specs.Lines.{failure_in}
use Rattle.session.specs.Queries.{IsSaidOfPlace}
use Rattle.text_reading.specs.Structures.{IsParsedAs}

-- what is said of the items of a parsed text is said of the text
pub of_items : (text : List ℕ) (p : Parsed) (P : List Tree → said.Said → Type 0) (r : Result Reply AllocError) → IsParsedAs text p
    → IfOk r (λ x. P (trees_of p.tree) (said_of x)) → IfOk r (λ x. ItemsAre text P (said_of x))
of_items text p P (Ok x) h is = (h.tokens, h.lexed, subst (λ ts. P ts (said_of x)) h.items is)
of_items text p P (Err e) h is = tt

-- where the name isn't bound, or there is none
pub name_fails : {A : Type 0} (Q : Place → A → Type 0) (f : Name → Option Place) (P : Name → said.Said → Type 0) (e : QueryFault) (o : Option Name) (s : said.Said) → MeetsName Q f (Err e) o → failure_in e ≡ Some s → NameIs P o s
name_fails Q f P fault.NotAName o s meets is = let same : said.not_a_name ≡ s = cc in subst (λ x. NameIs P x s) (sym meets) (sym same)
name_fails Q f P (fault.Unbound ident) None s meets is = absurd meets
name_fails Q f P (fault.Unbound ident) (Some n) s meets is = let same : said.unbound (str_bytes ident) ≡ s = cc in inl (sym same ∙ ap said.unbound meets.1)
name_fails Q f P fault.NoNode o s meets is = absurd meets
name_fails Q f P fault.NoMemory o s meets is = cc

-- a name that is found has a place
pub name_located : (text : List ℕ) (Q : Place → Place → Type 0) (f : Name → Option Place) (p : Place) (o : Option Name) (s : said.Said) → MeetsName Q f (Ok p) o → IsSaidOfPlace text s → NameIs (PlaceIs text) o s
name_located text Q f p None s meets is = absurd meets
name_located text Q f p (Some n) s meets is = inr is

same_span_self : (a : Span) → same_span a a ≡ true
same_span_self a = rw (eq-eqb a.start a.start refl, eq-eqb a.end a.end refl) refl

same_place_self : (p : Place) → same_place p p ≡ true
same_place_self (Buffer a) = same_span_self a
same_place_self (Prelude a) = same_span_self a
same_place_self (BuiltIn k) = eq-eqb k k refl

defined_there : (f : Name → Option Place) (p : Place) (n : Name) → f n ≡ Some p → is_defined_at f p n ≡ true
defined_there f p n is = ap (λ q. elim q [ None ↦ false | Some q ↦ same_place p q ]) is ∙ same_place_self p

-- a name that is found has uses
pub name_used : (text : List ℕ) (names : List Name) (f : Name → Option Place) (v : Vec Span Global) (o : Option Name) (ss : List ((ℕ × ℕ) × (ℕ × ℕ)))
    → MeetsName (λ p (w : Vec Span Global). map place_of w.items ≡ map (λ n. n.span) (filter (is_defined_at f p) names)) f (Ok v) o
    → ss ≡ map (shown_place text) (map place_of v.items) → NameIs (UsesAre text names) o (said.spans ss)
name_used text names f v None ss meets shown = absurd meets
name_used text names f v (Some n) ss meets shown = inr (
  is_defined_at f meets.0,
  defined_there f meets.0 n meets.1,
  ap said.spans (shown ∙ ap (map (shown_place text)) meets.2),
)
