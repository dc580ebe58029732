pub mod Predict
