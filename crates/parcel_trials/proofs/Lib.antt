pub mod ParcelExamples
