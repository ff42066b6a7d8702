-- The parameters of a declaration: in order it is judged that each is new.
use Rattle.std.proofs.Common.{◌≡◌, ◌∙◌, ◌++◌, ◌+◌, ◌<◌, ℕ, Bool, true, not, List, [], ◌∷◌, length, drop, refl, sym, ap, subst, append_assoc, append-nil, if◌then◌else◌}
use Rattle.std.specs.Prelude.{slice_index_or}
use Rattle.std.specs.Str.{bytes_eq}
use Rattle.std.proofs.lemmas.List.{drop_more}
use denote.Ref.{Bor}
use Rattle.token_model.specs.Kinds.{Tok}
use Rattle.text_terms.specs.Bytes.{str_bytes}
use Rattle.syntax_tree.specs.View.{place_of, tok_of}
use Rattle.syntax_tree.specs.declared.tree.Token.{Token}
use Rattle.signature_model.specs.Declarations.{Name}
use Rattle.typing_model.specs.Contexts.{ask}
use Rattle.typing_model.specs.Demands.{site, twice, test}
use Rattle.typing_model.specs.Parts as parts
use Rattle.typing_model.specs.Patterns.{ask_all}
use Rattle.typing_model.specs.Records.{is_among}
use Rattle.typing_model.specs.Declarations.{new_tokens}
use Rattle.typing_state.specs.declared.parts.Parts.{Parts}
use Rattle.typing_state.specs.Goes.{Goes}
use Rattle.typing_conditions.proofs.Equals.{judged_as}
use Rattle.typing_conditions.specs.Sights.{Sight}
use Rattle.typing_steps.specs.States.{is_aloud, sight}
use Rattle.typing_rows.specs.Settled.{Before, behind}
use Rattle.typing_rows.proofs.Settling.{settled_none, settled_trans, settled_here}
use Rattle.typing_rows.proofs.Judging.{Judges}
use Rattle.decl_typing.specs.Fresh.{AsksNew}
use Rattle.decl_typing.specs.Asked.{tokens_as, FirstTokens, TokensSettled}
use Rattle.decl_typing.proofs.Constructors.{new_judges, among_more}

-- no name yet
pub no_tokens : {B : Before} {n : ℕ} {a : Sight} (all : List Tok) → FirstTokens B n all all [] 1 a a
no_tokens {a = a} all = record { done = []; judged = []; told = []; reports = sym (append-nil a.reports); settled = settled_none; split = refl }

-- one name more
pub one_token : {B : Before} {n k : ℕ} {a b d : Sight} {all left : List Tok} {seen : List Name} (t : Tok) (x : FirstTokens B n all (t ∷ left) seen k a b) →
    Judges (behind B x.judged []) (λ c. ask n k (parts.place_of t) (test (twice t.name) (not (is_among t.name seen)))) b d (site n k) (not (is_among t.name seen)) → FirstTokens B n all left (seen ++ t.name ∷ []) (k + 1) a d
one_token {n = n} {k = k} {a = a} {left = left} {seen = seen} t x y = record {
  done = x.done ++ ask n k (parts.place_of t) (test (twice t.name) (not (is_among t.name seen)));
  judged = x.judged ++ judged_as (site n k) (not (is_among t.name seen));
  told = x.told ++ y.told;
  reports = y.reports ∙ ap (λ rs. rs ++ y.told) x.reports ∙ append_assoc a.reports x.told y.told;
  settled = settled_trans x.settled y.settled;
  split = x.split ∙ sym (append_assoc x.done (ask n k (parts.place_of t) (test (twice t.name) (not (is_among t.name seen)))) (ask_all n (k + 1) (new_tokens (seen ++ t.name ∷ []) left)));
}

-- all names
pub all_tokens : {B : Before} {n k : ℕ} {a b : Sight} {all : List Tok} (seen : List Name) → FirstTokens B n all [] seen k a b → TokensSettled B n all a b
all_tokens seen x = record { judged = x.judged; told = x.told; reports = x.reports; settled = settled_here (λ c h. sym (x.split ∙ append-nil x.done)) x.settled }

-- a loop over parameters: the names so far, and what is judged
pub record SettlesFirstTokens (a b : Parts) (ts : List (Bor Token)) (i : ℕ) (has : Name → Bool) : Type 0 where
  pub seen : List Name
  pub same : (q : Name) → has q ≡ is_among q seen
  pub first : is_aloud a.telling ≡ true → (B : Before) (n : ℕ) → FirstTokens B n (tokens_as ts) (tokens_as (drop i ts)) seen (i + 1) (sight a) (sight b)

-- one name more in the loop
pub each_token : (a b d : Parts) (ts : List (Bor Token)) (i : ℕ) (t : Bor Token) (has now : Name → Bool) → i < length ts → t ≡ slice_index_or ts i t → SettlesFirstTokens a b ts i has → Goes a b → AsksNew (has (str_bytes t.now.name)) t.now b d →
    ((q : Name) → now q ≡ (if bytes_eq (str_bytes t.now.name) q then true else has q)) → SettlesFirstTokens a d ts (i + 1) now
each_token a b d ts i t has now lt here f goes asked adds = record {
  seen = f.seen ++ str_bytes t.now.name ∷ [];
  same = λ q. adds q ∙ ap (λ (u : Bool). if bytes_eq (str_bytes t.now.name) q then true else u) (f.same q) ∙ among_more q (str_bytes t.now.name) f.seen;
  first = λ aloud B n.
      let y = subst (λ left. FirstTokens B n (tokens_as ts) left f.seen (i + 1) (sight a) (sight b)) (ap tokens_as (drop_more ts i t lt ∙ ap (λ u. u ∷ drop (i + 1) ts) (sym here))) (f.first aloud B n) in
      let j = new_judges b d {B = behind B y.judged []} n (i + 1) t.now (has (str_bytes t.now.name)) (ap is_aloud goes.telling ∙ aloud) asked in
      one_token (tok_of t.now) y
      (subst (λ (v : Bool). Judges (behind B y.judged []) (λ c. ask n (i + 1) (place_of t.now.span) (test (twice (str_bytes t.now.name)) (not v))) (sight b) (sight d) (site n (i + 1)) (not v)) (f.same (str_bytes t.now.name)) j);
}
