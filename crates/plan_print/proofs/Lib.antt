mod TourLines
mod Costs
mod StepLines
