-- The JSON pointers of places.
use Rattle.std.specs.Prelude.{ℕ, List, [], ◌++◌, codes, decimal}
use Rattle.model_json.specs.declared.place.Place.{Place}
use Rattle.model_json.specs.declared.place.Place.TheVariants as place

abbrev pub pointer_text : Place → List ℕ
pointer_text place.Whole = []
pointer_text place.Version = codes "/macbeth"
pointer_text place.Groups = codes "/groups"
pointer_text (place.Group i) = codes "/groups/" ++ decimal i
pointer_text (place.GroupName i) = codes "/groups/" ++ (decimal i ++ codes "/name")
pointer_text (place.GroupParent i) = codes "/groups/" ++ (decimal i ++ codes "/parent")
pointer_text place.Criteria = codes "/criteria"
pointer_text (place.Criterion i) = codes "/criteria/" ++ decimal i
pointer_text (place.CriterionName i) = codes "/criteria/" ++ (decimal i ++ codes "/name")
pointer_text (place.Elements i) = codes "/criteria/" ++ (decimal i ++ codes "/elements")
pointer_text (place.Element i j) = codes "/criteria/" ++ (decimal i ++ (codes "/elements/" ++ decimal j))
pointer_text (place.Good i) = codes "/criteria/" ++ (decimal i ++ codes "/good")
pointer_text (place.Neutral i) = codes "/criteria/" ++ (decimal i ++ codes "/neutral")
pointer_text (place.Judgements i) = codes "/criteria/" ++ (decimal i ++ codes "/judgements")
pointer_text (place.Judgement i j) = codes "/criteria/" ++ (decimal i ++ (codes "/judgements/" ++ decimal j))
pointer_text (place.Reach i) = codes "/criteria/" ++ (decimal i ++ codes "/reach")
pointer_text (place.CriterionGroup i) = codes "/criteria/" ++ (decimal i ++ codes "/group")
pointer_text place.Options = codes "/options"
pointer_text (place.OptionAt i) = codes "/options/" ++ decimal i
pointer_text (place.OptionName i) = codes "/options/" ++ (decimal i ++ codes "/name")
pointer_text (place.Performances i) = codes "/options/" ++ (decimal i ++ codes "/performances")
pointer_text place.Weighting = codes "/weighting"
pointer_text place.Order = codes "/weighting/order"
pointer_text place.Swings = codes "/weighting/judgements"
pointer_text (place.Swing j) = codes "/weighting/judgements/" ++ decimal j
