pub mod ValuationLaws
