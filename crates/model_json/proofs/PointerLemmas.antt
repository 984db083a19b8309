-- Pointers have no newline.
use Rattle.std.proofs.Common.{◌≡◌, ℕ, List, ◌++◌, true, Option, None, Some, Result, Ok, Err, refl, subst, codes}
use Rattle.std.specs.Fmt.{decimal}
use Rattle.serde_json.specs.Data.{Data}
use Rattle.model_core.specs.State.{ModelState}
use Rattle.model_json.specs.declared.place.Place.{Place}
use Rattle.model_json.specs.declared.place.Place.TheVariants as place
use Rattle.model_json.specs.declared.fault.LoadFault.TheVariants.{BadModel}
use Rattle.model_json.specs.Pointers.{pointer_text}
use Rattle.model_json.specs.Reading.{model_of}
use Rattle.word_table.specs.Lines.{is_line}
use Rattle.model_json.proofs.LineLemmas.{line-append, number_line}
use Rattle.model_json.specs.Text.{json_of, or_bad, model_or_bad, load_of}

-- a number with words behind it
behind : (n : ℕ) (words : List ℕ) → is_line words ≡ true → is_line (decimal n ++ words) ≡ true
behind n words h = line-append (decimal n) words (number_line n) h

pub pointer_line : (at_place : Place) → is_line (pointer_text at_place) ≡ true
pointer_line place.Whole = refl
pointer_line place.Version = refl
pointer_line place.Groups = refl
pointer_line (place.Group i) = number_line i
pointer_line (place.GroupName i) = behind i (codes "/name") refl
pointer_line (place.GroupParent i) = behind i (codes "/parent") refl
pointer_line place.Criteria = refl
pointer_line (place.Criterion i) = number_line i
pointer_line (place.CriterionName i) = behind i (codes "/name") refl
pointer_line (place.Elements i) = behind i (codes "/elements") refl
pointer_line (place.Element i j) = behind i (codes "/elements/" ++ decimal j) (number_line j)
pointer_line (place.Good i) = behind i (codes "/good") refl
pointer_line (place.Neutral i) = behind i (codes "/neutral") refl
pointer_line (place.Judgements i) = behind i (codes "/judgements") refl
pointer_line (place.Judgement i j) = behind i (codes "/judgements/" ++ decimal j) (number_line j)
pointer_line (place.Reach i) = behind i (codes "/reach") refl
pointer_line (place.CriterionGroup i) = behind i (codes "/group") refl
pointer_line place.Options = refl
pointer_line (place.OptionAt i) = number_line i
pointer_line (place.OptionName i) = behind i (codes "/name") refl
pointer_line (place.Performances i) = behind i (codes "/performances") refl
pointer_line place.Weighting = refl
pointer_line place.Order = refl
pointer_line place.Swings = refl
pointer_line (place.Swing j) = number_line j

-- the pointer that a text is refused with
pub fault_line : (bytes pointer : List ℕ) → load_of bytes ≡ Err (BadModel pointer) → is_line pointer ≡ true
unfolding load_of
fault_line bytes pointer e = by_json (json_of bytes) e
  where
    by_model : (r : Result ModelState Place) → or_bad r ≡ Err (BadModel pointer) → is_line pointer ≡ true
    by_model (Ok m) e = cc
    by_model (Err at_place) e = let same : pointer_text at_place ≡ pointer = cc in subst (λ text. is_line text ≡ true) same (pointer_line at_place)

    by_json : (json : Option Data) → model_or_bad json ≡ Err (BadModel pointer) → is_line pointer ≡ true
    by_json None e = cc
    by_json (Some value) e = by_model (model_of value) e
