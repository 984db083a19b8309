-- Certificates by the tags of their rows.
use Rattle.std.proofs.Common.{◌≡◌, ℕ, List, [], ◌∷◌, map, ℤ, Option, Some, refl, ap, sym}
use Rattle.std.specs.Prelude.{slice_get, slice_index_or, Result, Ok, Err}
use Rattle.std.specs.Result.{IfOk}
use Rattle.std.proofs.lemmas.Option.{get_or_from_slice_get}
use Rattle.judgement_matrix.specs.Matrix.{Judgements}
use Rattle.judgement_matrix.specs.declared.tag.Tag.{Tag}
use Rattle.judgement_matrix.specs.declared.tag.Tag.TheVariants.{Order}
use Rattle.lp_macbeth.specs.Rows.{judged_rows}
use Rattle.cert_check.specs.Rows.{by_tag, by_place, AreNamed, IsNamed}
use Rattle.cert_check.specs.declared.text.CertText.{CertText}
use Rattle.cert_check.specs.declared.text.Claim.{Claim}
use Rattle.frac128.specs.declared.problem.Cert.{Cert}
use Rattle.session_edits.specs.Scales.{tag_at, named}

-- the entries by tags are those at their positions
pub named_entries : (m : Judgements) (named : List (Tag × ℤ)) (placed : List (ℕ × ℤ)) → AreNamed m named placed → named ≡ map (tag_at m) placed
named_entries m [] [] h = refl
named_entries m [] (p ∷ placed) h = absurd (cc)
named_entries m (e ∷ named) [] h = absurd (cc)
named_entries m (e ∷ named) (p ∷ placed) h =
    let first : ◌≡◌ {A = Option Tag × ℤ} (by_place m p) (by_tag e) = cc in
    let rest : map (by_place m) placed ≡ map by_tag named = cc in
    let tag : slice_get (judged_rows m) p.0 ≡ Some e.0 = ap (λ (x : Option Tag × ℤ). x.0) first in
    let multiplier : p.1 ≡ e.1 = ap (λ (x : Option Tag × ℤ). x.1) first in
    let there : slice_index_or (judged_rows m) p.0 (Order 0) ≡ e.0 = get_or_from_slice_get (judged_rows m) p.0 e.0 (Order 0) tag in
    λ i. (sym there i, sym multiplier i) ∷ named_entries m named placed rest i

-- ---- the call that names rows

pub named_text : {E : Type 0} (m : Judgements) (claim : Claim) (cert : Cert) (r : Result CertText E) → IfOk r (λ text. IsNamed m text cert)
    → IfOk r (λ text. text.claim ≡ claim) → IfOk r (λ text. text ≡ named m claim cert)
named_text m claim cert (Ok text) is same =
    λ i. record { claim = same i; den = is.den i; on = named_entries m text.on cert.on is.on i }
named_text m claim cert (Err e) is same = tt
