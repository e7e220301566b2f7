pub mod WholeSets
pub mod RuleNeeds
pub mod Laws
